-- Where a number stands on a walk along the numbers of a kind.
use Rattle.std.specs.Prelude.{ℕ, ◌+◌, ◌≤◌, ◌<◌, List, length, slice_index}
use Rattle.meaning_atoms.specs.declared.atom.TheConstants.{END}
use Rattle.oracle_face.specs.Walks.{IsFree, IsWalkStart}

-- the walk comes from i to the number n
pub record IsPlaceBefore (P : ℕ → Type 0) (n i : ℕ) : Type 0 where
  pub start : IsWalkStart P i
  pub order : i ≤ n
  pub gap : IsFree P i n

-- j is the first of the numbers past n
pub record IsNextAfter (P : ℕ → Type 0) (n j : ℕ) : Type 0 where
  pub past : n < j
  pub stop : P j
  pub gap : IsFree P (n + 1) j

-- none of the numbers is past n
abbrev pub HasNoneAfter : (ℕ → Type 0) → ℕ → Type 0
HasNoneAfter P n = IsFree P (n + 1) END

-- the numbers of the list before the index are below n, and the others aren't
pub record IsCutAt (n : ℕ) (list : List ℕ) (index : ℕ) : Type 0 where
  pub before : (k : ℕ) → k < index → k < length list → slice_index list k < n
  pub after : (k : ℕ) → index ≤ k → k < length list → n ≤ slice_index list k
