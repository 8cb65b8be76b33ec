use Rattle.std.proofs.Common.{take}
use Rattle.plain_lits.specs.Literals.{negation}
use Rattle.plain_lits.specs.HintCheck.{IsFalsified}
use Rattle.refutation_logs.proofs.used.first_open.Given as goal

abbrev pub invariant-loop-packed : goal.invariant-loop-packed
invariant-loop-packed l = IsFalsified negation l.trail.lits (take l.packed-index l.clause)
