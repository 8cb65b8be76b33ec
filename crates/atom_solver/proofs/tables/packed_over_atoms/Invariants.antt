use Rattle.std.proofs.Common.{◌≡◌, take}
use Rattle.atom_solver.specs.Tables.{told}
use Rattle.atom_solver.proofs.tables.packed_over_atoms.Given as goal

abbrev pub invariant-loop-packed : goal.invariant-loop-packed
invariant-loop-packed l = l.literals ≡ told l.table (take l.packed-index l.clause)
