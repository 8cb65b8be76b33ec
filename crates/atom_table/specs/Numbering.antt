-- Atoms and their variables, one to one.
use Rattle.std.specs.Prelude.{◌≡◌, ◌≢◌, ◌⊎◌, ℕ, ◌<◌, List, [], ◌∷◌, ◌++◌, Contains, length, slice_get, slice_index_or, Option, Some}
use Rattle.meaning_atoms.specs.declared.atom.Atom.{Atom}
use Rattle.meaning_atoms.specs.declared.atom.Atom.TheVariants.{Member}

-- no atom stands twice in the list, so each has one variable
abbrev pub AreDifferent : List Atom → Type 0
AreDifferent atoms = (i j : ℕ) (d : Atom) → i < j → j < length atoms → slice_index_or atoms i d ≢ slice_index_or atoms j
    d

-- each variable that is kept for an argument is that of the argument's being a member
abbrev pub AreMembers : List Atom → List (Option ℕ) → Type 0
AreMembers atoms members = (a var : ℕ) → slice_get members a ≡ Some (Some var) → slice_get atoms var ≡ Some (Member a)

pub record IsTable (atoms : List Atom) (places : List (Option ℕ)) : Type 0 where
  pub different : AreDifferent atoms
  pub members : AreMembers atoms places

-- the atom has this variable now: the table is as it was, or the atom is new and comes last
pub record Numbers (old new : List Atom) (atom : Atom) (var : ℕ) : Type 0 where
  pub at : slice_get new var ≡ Some atom
  pub grown : (new ≡ old) ⊎ ((Contains old atom → ⊥) × (new ≡ old ++ atom ∷ []))
