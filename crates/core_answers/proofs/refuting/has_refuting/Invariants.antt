use Rattle.std.proofs.Common.{◌<◌, ℕ}
use Rattle.edit_rules.specs.Kinds.{framework_of}
use Rattle.core_answers.specs.Refuting.{RefutesAt}
use Rattle.core_answers.proofs.refuting.has_refuting.Given as goal

abbrev pub invariant-loop-index : goal.invariant-loop-index
invariant-loop-index l =
    (k : ℕ) → k < l.index → RefutesAt (framework_of l.framework) l.claim l.own l.steps l.marks k → ⊥
