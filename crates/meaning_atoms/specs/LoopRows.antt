-- The numbers of a loop clause's rows, as they are read one after the other.
use Rattle.std.specs.Prelude.{◌≡◌, ℕ, List, ◌∷◌, ◌++◌, length, map}
use Rattle.std.specs.List.{flat_map}
use Rattle.meaning_atoms.specs.declared.loop_rows.LoopRow.{LoopRow}
use Rattle.meaning_atoms.specs.AxiomText.{pair_numbers, row_numbers}

-- the numbers begin with so many pairs, and the rest follows
pub record BeginsWithPairs (numbers : List ℕ) (count : ℕ) (pairs : List (ℕ × ℕ)) (rest : List ℕ) : Type 0 where
  pub many : length pairs ≡ count
  pub are : numbers ≡ flat_map pair_numbers pairs ++ rest

-- the numbers begin with how many pairs there are and the pairs, and the rest follows
abbrev pub BeginsWithRow : List ℕ → List (ℕ × ℕ) → List ℕ → Type 0
BeginsWithRow numbers pairs rest = numbers ≡ length pairs ∷ (flat_map pair_numbers pairs ++ rest)

-- rows of these atoms, whose pairs are these numbers
pub record AreRowsOf (atoms numbers : List ℕ) (rows : List LoopRow) : Type 0 where
  pub atoms_are : map (λ r. r.atom) rows ≡ atoms
  pub numbers_are : flat_map row_numbers rows ≡ numbers
