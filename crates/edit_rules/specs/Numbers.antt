-- Rising lists of numbers that an edit changes.
use Rattle.std.specs.Prelude.{ℕ, Bool, ◌==◌, nat_lt, List, ◌∷◌, ◌++◌, filter}
use Rattle.std.specs.List.{list_any}

-- the list has the number
abbrev pub has_number : List ℕ → ℕ → Bool
has_number xs x = list_any (λ y. y == x) xs

-- a rising list with a number more
abbrev pub with_number : ℕ → List ℕ → List ℕ
with_number x xs = filter (λ y. nat_lt y x) xs ++ x ∷ filter (λ y. nat_lt x y) xs
