use Rattle.std.proofs.Common.{take}
use Rattle.plain_lits.specs.HintCheck.{IsFalsified}
use Rattle.meaning_atoms.specs.Literals.{negated}
use Rattle.core_logs.proofs.checking.clause_status.Given as goal

abbrev pub invariant-loop-literal : goal.invariant-loop-literal
invariant-loop-literal l = IsFalsified negated l.truths (take l.literal-index l.clause)
