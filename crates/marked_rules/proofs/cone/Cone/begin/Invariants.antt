use Rattle.marked_rules.proofs.ConeLemmas.{HasFirst}
use Rattle.marked_rules.proofs.cone.Cone.begin.Given as goal

abbrev pub invariant-loop-member : goal.invariant-loop-member
invariant-loop-member l = HasFirst l.plain l.set l.member-index l.self
