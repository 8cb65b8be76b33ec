use Rattle.std.specs.Prelude.{Contains, IfSome}
use Rattle.sleeping_clauses.proofs.sleepers.rarest.Given as goal

abbrev pub invariant-loop-packed : goal.invariant-loop-packed
invariant-loop-packed l = IfSome l.found (Contains l.clause)
