-- Rising lists of pairs that an edit changes.
use Rattle.std.specs.Prelude.{ℕ, Bool, ◌==◌, ◌&&◌, ◌||◌, not, nat_lt, List, ◌∷◌, ◌++◌, filter}
use Rattle.std.specs.List.{list_any}

-- the list has the pair
abbrev pub has_pair : List (ℕ × ℕ) → ℕ × ℕ → Bool
has_pair ps p = list_any (λ q. q.0 == p.0 && q.1 == p.1) ps

-- the first pair comes before the second
abbrev pub is_before : ℕ × ℕ → ℕ × ℕ → Bool
is_before p q = nat_lt p.0 q.0 || (p.0 == q.0 && nat_lt p.1 q.1)

-- a rising list of pairs with a pair more, and without one
abbrev pub with_pair : ℕ × ℕ → List (ℕ × ℕ) → List (ℕ × ℕ)
with_pair p ps = filter (λ q. is_before q p) ps ++ p ∷ filter (λ q. is_before p q) ps

abbrev pub without_pair : ℕ × ℕ → List (ℕ × ℕ) → List (ℕ × ℕ)
without_pair p ps = filter (λ q. not (q.0 == p.0 && q.1 == p.1)) ps
