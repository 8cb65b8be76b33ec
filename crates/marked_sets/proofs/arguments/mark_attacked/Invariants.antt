use Rattle.marked_sets.proofs.MarkLemmas.{HasMarked}
use Rattle.marked_sets.proofs.arguments.mark_attacked.Given as goal

abbrev pub invariant-loop-member : goal.invariant-loop-member
invariant-loop-member l = HasMarked l.plain l.set l.member-index l.marks
