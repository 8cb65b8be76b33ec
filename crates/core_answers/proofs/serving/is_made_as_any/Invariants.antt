use Rattle.std.proofs.Common.{◌<◌, ℕ, get_or}
use Rattle.edit_rules.specs.Kinds.{framework_of}
use Rattle.oracle_face.specs.Logs.{IsSameClause}
use Rattle.answer_claims.specs.declared.sides.SideKind.TheVariants.{Outside}
use Rattle.answer_claims.specs.SideClauses.{side_of}
use Rattle.core_answers.proofs.serving.is_made_as_any.Given as goal

abbrev pub invariant-loop-index : goal.invariant-loop-index
invariant-loop-index l = (k : ℕ) → k < l.index
    → IsSameClause l.literals (side_of (framework_of l.framework) (get_or l.kinds k Outside) l.set) → ⊥
