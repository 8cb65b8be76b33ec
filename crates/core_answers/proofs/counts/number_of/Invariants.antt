use Rattle.std.proofs.Common.{◌≡◌, take}
use Rattle.std.specs.Prelude.{count_by}
use Rattle.core_answers.specs.Serving.{counts}
use Rattle.core_answers.proofs.counts.number_of.Given as goal

abbrev pub invariant-loop-step : goal.invariant-loop-step
invariant-loop-step l = l.found ≡ count_by (counts l.what) (take l.step-index l.steps)
