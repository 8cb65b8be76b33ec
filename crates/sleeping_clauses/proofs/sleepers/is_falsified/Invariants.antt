use Rattle.std.proofs.Common.{take}
use Rattle.std.specs.Prelude.{Contains}
use Rattle.plain_lits.specs.declared.lit.Lit.{Lit}
use Rattle.plain_lits.specs.Literals.{negation}
use Rattle.sleeping_clauses.proofs.sleepers.is_falsified.Given as goal

abbrev pub invariant-loop-packed : goal.invariant-loop-packed
invariant-loop-packed l =
    (x : Lit) → Contains (take l.packed-index l.part) x → Contains l.trail.lits (negation x)
