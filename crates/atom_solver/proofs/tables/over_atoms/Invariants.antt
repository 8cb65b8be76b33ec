use Rattle.std.proofs.Common.{◌≡◌, take}
use Rattle.atom_solver.specs.Tables.{told}
use Rattle.atom_solver.proofs.tables.over_atoms.Given as goal

abbrev pub invariant-loop-lit : goal.invariant-loop-lit
invariant-loop-lit l = l.literals ≡ told l.table (take l.lit-index l.lits)
