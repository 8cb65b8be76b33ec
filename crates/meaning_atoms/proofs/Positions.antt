-- The ends of a stretch of positions, and the first and the last position.
use Rattle.std.proofs.Common.{◌+◌, ℕ, arith}
use Rattle.semantics.specs.Arguments.{IsArgument}
use Rattle.meaning_atoms.specs.Atoms.{IsPosition}
use Rattle.meaning_atoms.specs.Axioms.{IsStretch}

-- the position of the first argument, and that past the last
pub first_place : IsPosition 1
first_place = record { low = omega arith; high = omega arith }

pub last_place : IsPosition 1000001
last_place = record { low = omega arith; high = omega arith }

-- the ends of a stretch, as an argument and as positions, and the position past it
pub stretch_begin : (a i j : ℕ) → IsStretch a i j → IsPosition i
stretch_begin a i j s = record { low = s.from; high = omega arith }

pub stretch_end : (a i j : ℕ) → IsStretch a i j → IsPosition j
stretch_end a i j s = record { low = omega arith; high = omega arith }

pub stretch_argument : (a i j : ℕ) → IsStretch a i j → IsArgument j
stretch_argument a i j s = record { low = omega arith; high = omega arith }

pub stretch_past : (a i j : ℕ) → IsStretch a i j → IsPosition (j + 1)
stretch_past a i j s = record { low = omega arith; high = omega arith }
