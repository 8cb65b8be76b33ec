use Rattle.marked_sets.specs.Marks.{MarksAlso}
use Rattle.marked_sets.proofs.MarkLemmas.{IsSecond}
use Rattle.marked_sets.proofs.arguments.mark_targets.Given as goal

abbrev pub invariant-loop-pair : goal.invariant-loop-pair
invariant-loop-pair l = MarksAlso (IsSecond l.targets l.pair-index) l.initial.marks l.marks
