-- Lists of sets.
use Rattle.std.specs.Prelude.{ℕ, List, [], ◌∷◌, ◌++◌, Contains}
use Rattle.lists.specs.Members.{IsWithin}
use Rattle.semantics.specs.Laws.{HasSameMembers}

-- a set of the list has these members
pub record IsListed (sets : List (List ℕ)) (t : List ℕ) : Type 0 where
  pub set : List ℕ
  pub member : Contains sets set
  pub same : HasSameMembers set t

-- each set of these numbers is listed, by its members
abbrev pub HasAllSets : List ℕ → List (List ℕ) → Type 0
HasAllSets numbers sets = (t : List ℕ) → IsWithin t numbers → IsListed sets t

-- each set of the first list is in the second, as it is and with a number more
abbrev pub HasLarger : ℕ → List (List ℕ) → List (List ℕ) → Type 0
HasLarger n sets all = (s : List ℕ) → Contains sets s → Contains all s × Contains all (s ++ n ∷ [])
