-- A list cut into rows at the indices where they end.
use Rattle.std.specs.Prelude.{◌≡◌, ℕ, ◌≤◌, List, [], ◌∷◌, slice_range}

-- the rows of a list from an index on, by the indices where they end
abbrev pub rows_from : {T : Type 0} → List T → ℕ → List ℕ → List (List T)
rows_from items from [] = []
rows_from items from (end ∷ ends) = slice_range items from end ∷ rows_from items end ends

-- where the last row ends
abbrev pub last_end : ℕ → List ℕ → ℕ
last_end from [] = from
last_end from (end ∷ ends) = last_end end ends

-- the ends rise from an index on
abbrev pub EndsRise : ℕ → List ℕ → Type 0
EndsRise from [] = Unit {0}
EndsRise from (end ∷ ends) = (from ≤ end) × EndsRise end ends

-- the ends rise, and the last one is the end of the list
pub record AreEnds (ends : List ℕ) (count : ℕ) : Type 0 where
  pub rise : EndsRise 0 ends
  pub last : last_end 0 ends ≡ count
