-- Finite sets of numbers as plain lists, of which only the members count.
use Rattle.std.specs.Prelude.{ℕ, List, Contains, ◌↔◌}
use Rattle.std.specs.List.Sorted.{IsStrictlyIncreasing}

-- each member of the one is a member of the other
abbrev pub IsWithin : List ℕ → List ℕ → Type 0
IsWithin xs ys = (x : ℕ) → Contains xs x → Contains ys x

-- a rising list whose members are exactly the numbers of which P holds
pub record IsSetOf (P : ℕ → Type 0) (xs : List ℕ) : Type 0 where
  pub rises : IsStrictlyIncreasing xs
  pub members : (x : ℕ) → Contains xs x ↔ P x
