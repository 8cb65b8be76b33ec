use Rattle.std.proofs.Common.{◌≢◌, take}
use Rattle.std.specs.Prelude.{Contains}
use Rattle.plain_lits.specs.declared.lit.Lit.{Lit}
use Rattle.plain_lits.specs.Literals.{negation}
use Rattle.plain_lits.specs.Packed.{packed}
use Rattle.clause_watches.proofs.finding.find_in.Given as goal

abbrev pub invariant-loop-at : goal.invariant-loop-at
invariant-loop-at l =
    (x : Lit) → Contains (take l.at l.part) x → packed x ≢ l.other → Contains l.trail.lits (negation x)
