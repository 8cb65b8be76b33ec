use Rattle.std.specs.Prelude.{take}
use Rattle.meaning_atoms.specs.Literals.{AsksNothing}
use Rattle.atom_solver.specs.Lifted.{atoms_of}
use Rattle.atom_solver.proofs.importing.asks_nothing.Given as goal

abbrev pub invariant-loop-packed : goal.invariant-loop-packed
invariant-loop-packed l = AsksNothing (atoms_of l.table (take l.packed-index l.clause))
