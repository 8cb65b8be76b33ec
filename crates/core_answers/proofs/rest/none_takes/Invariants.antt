use Rattle.std.specs.Prelude.{count_by}
use Rattle.core_answers.proofs.RestLemmas.{IsSpreading}
use Rattle.core_answers.proofs.rest.none_takes.Given as goal

abbrev pub invariant-loop-marks : goal.invariant-loop-marks
invariant-loop-marks l = IsSpreading l.steps l.clause l.truths.items l.marks.items

abbrev pub decreases-loop-marks : goal.decreases-loop-marks
decreases-loop-marks l = count_by (λ b. b) l.marks.items
