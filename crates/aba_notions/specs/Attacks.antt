-- What is added to a list on the way to what a set attacks.
use Rattle.std.specs.Prelude.{◌≡◌, ◌↔◌, ◌⊎◌, ℕ, List, Contains}

-- some pair begins with x and ends in a number of which P holds
pub record HasPairWith (pairs : List (ℕ × ℕ)) (P : ℕ → Type 0) (x : ℕ) : Type 0 where
  pub second : ℕ
  pub pair : Contains pairs (x, second)
  pub holds : P second

-- the list has gained the first number of the pair where P holds of the second, and nothing else
pub record AddsFirst (p : ℕ × ℕ) (P : ℕ → Type 0) (old new : List ℕ) : Type 0 where
  pub members : (x : ℕ) → Contains new x ↔ (Contains old x ⊎ ((p.0 ≡ x) × P p.1))
