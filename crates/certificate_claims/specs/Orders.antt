-- How one set stands to others.
use Rattle.std.specs.Prelude.{ℕ, List, Contains}
use Rattle.lists.specs.Members.{IsWithin}

-- the set lies in the other, which has more
pub record IsPart (s t : List ℕ) : Type 0 where
  pub within : IsWithin s t
  pub more : ¬ IsWithin t s

-- the set is part of one of the sets
abbrev pub IsPartOfAny : List ℕ → List (List ℕ) → Type 0
IsPartOfAny s sets = (t : List ℕ) × Contains sets t × IsPart s t

-- one of the sets has all of the set, and more
pub record HasLarger (sets : List (List ℕ)) (s : List ℕ) : Type 0 where
  pub part : IsPartOfAny s sets

-- some set is part of another one
abbrev pub IsSomePart : List (List ℕ) → Type 0
IsSomePart sets = (s : List ℕ) × Contains sets s × HasLarger sets s
