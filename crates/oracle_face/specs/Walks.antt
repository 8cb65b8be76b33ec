-- Walks along the numbers of a kind, such as the atoms of a body or the rules that head an atom.
use Rattle.std.specs.Prelude.{◌≡◌, ◌⊎◌, ℕ, ◌+◌, ◌≤◌, ◌<◌}
use Rattle.certificate_claims.specs.meaning_atoms.specs.declared.atom.TheConstants.{END}

-- none of the numbers lies from i to just before j
abbrev pub IsFree : (ℕ → Type 0) → ℕ → ℕ → Type 0
IsFree P i j = (y : ℕ) → P y → i ≤ y → y < j → ⊥

-- a walk begins at 1 and goes on just past one of the numbers
abbrev pub IsWalkStart : (ℕ → Type 0) → ℕ → Type 0
IsWalkStart P i = (i ≡ 1) ⊎ ((y : ℕ) × P y × (i ≡ y + 1))

-- one step of the walk: from i over a gap to the next of the numbers, j
pub record IsWalkStep (P : ℕ → Type 0) (i j : ℕ) : Type 0 where
  pub start : IsWalkStart P i
  pub order : i ≤ j
  pub gap : IsFree P i j
  pub stop : P j

-- its end: none of the numbers is i or more
pub record IsWalkEnd (P : ℕ → Type 0) (i : ℕ) : Type 0 where
  pub start : IsWalkStart P i
  pub gap : IsFree P i END
