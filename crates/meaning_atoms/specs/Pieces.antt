-- The pieces of a literal's text, as they are read one by one.
use Rattle.std.specs.Prelude.{◌≡◌, ℕ, List, [], ◌∷◌, Option, Some, None}
use Rattle.std.specs.List.{slice_split}
use Rattle.num_text.specs.Number.{IsNumber}
use Rattle.meaning_atoms.specs.declared.atom.Atom.{Atom}
use Rattle.meaning_atoms.specs.declared.text.Numbers.{Numbers}
use Rattle.meaning_atoms.specs.declared.text.Numbers.TheVariants.{Zero, One, Two, Three}
use Rattle.meaning_atoms.specs.AtomText.{is_colon, name_of, numbers_of}

-- the pieces of the text that is left; none is left behind the last piece
abbrev pub pieces_left : Option (List ℕ) → List (List ℕ)
pieces_left None = []
pieces_left (Some text) = slice_split is_colon text

abbrev pub values_of : Numbers → List ℕ
values_of Zero = []
values_of (One a) = a ∷ []
values_of (Two a b) = a ∷ b ∷ []
values_of (Three a b c) = a ∷ b ∷ c ∷ []

-- these numbers were found
pub record HasFound (found : Option Numbers) (numbers : List ℕ) : Type 0 where
  pub some_numbers : Numbers
  pub found_are : found ≡ Some some_numbers
  pub values : values_of some_numbers ≡ numbers

-- the atom has this name and these numbers
pub record IsAtomOf (name numbers : List ℕ) (atom : Atom) : Type 0 where
  pub named : name_of atom ≡ name
  pub numbered : numbers_of atom ≡ numbers

-- the first piece spells the number, and these pieces follow
pub record IsFirstNumber (pieces : List (List ℕ)) (number : ℕ) (more : List (List ℕ)) : Type 0 where
  pub piece : List ℕ
  pub pieces_are : pieces ≡ piece ∷ more
  pub spelled : IsNumber piece number
