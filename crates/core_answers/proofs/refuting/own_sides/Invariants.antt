use Rattle.std.proofs.Common.{take}
use Rattle.edit_rules.specs.Kinds.{framework_of}
use Rattle.answer_claims.specs.SideClauses.{sides_of}
use Rattle.core_answers.specs.Refuting.{HasNumbers}
use Rattle.core_answers.proofs.refuting.own_sides.Given as goal

abbrev pub invariant-loop-index : goal.invariant-loop-index
invariant-loop-index l = HasNumbers l.sides (sides_of (framework_of l.framework) l.kind (take l.index l.sets)) l.own
