use Rattle.std.proofs.Common.{◌<◌, ◌≤◌, ℕ, get_or, take}
use Rattle.edit_rules.specs.Kinds.{framework_of}
use Rattle.oracle_face.specs.Logs.{no_step}
use Rattle.core_answers.specs.Serving.{StepServes}
use Rattle.core_answers.proofs.serving.steps_serve.Given as goal

abbrev pub invariant-loop-index : goal.invariant-loop-index
invariant-loop-index l = (k : ℕ) → l.from ≤ k → k < l.index
    → StepServes (framework_of l.framework) (take k l.steps) (get_or l.steps k no_step)
