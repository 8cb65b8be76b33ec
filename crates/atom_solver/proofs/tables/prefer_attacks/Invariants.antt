use Rattle.std.proofs.Common.{◌≡◌}
use Rattle.atom_solver.proofs.tables.prefer_attacks.Given as goal

abbrev pub invariant-loop-lit : goal.invariant-loop-lit
invariant-loop-lit l = l.solver ≡ l.initial.solver
