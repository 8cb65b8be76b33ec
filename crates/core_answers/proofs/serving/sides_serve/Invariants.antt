use Rattle.std.proofs.Common.{◌<◌, ◌≤◌, ℕ, get_or}
use Rattle.edit_rules.specs.Kinds.{framework_of}
use Rattle.oracle_face.specs.Logs.{no_side}
use Rattle.session_log.specs.Ends.{SideServes}
use Rattle.core_answers.proofs.serving.sides_serve.Given as goal

abbrev pub invariant-loop-index : goal.invariant-loop-index
invariant-loop-index l = (k : ℕ) → l.from ≤ k → k < l.index
    → SideServes (framework_of l.framework) l.query (get_or l.sides k no_side).literals (get_or l.sides k no_side).set
