use Rattle.std.proofs.Common.{◌<◌, ℕ}
use Rattle.core_logs.specs.declared.checking.Status.TheVariants.{Other}
use Rattle.core_answers.specs.Parts.{StatusAt}
use Rattle.core_answers.proofs.rest.next_move.Given as goal

abbrev pub invariant-loop-index : goal.invariant-loop-index
invariant-loop-index l = (k : ℕ) → k < l.index → StatusAt l.steps l.marks l.truths k Other
