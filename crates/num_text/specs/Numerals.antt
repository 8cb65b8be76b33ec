-- Fields with the numbers that they spell.
use Rattle.std.specs.Prelude.{◌≡◌, ℕ, ◌⊎◌, List, ◌∷◌, length, slice_index, true, Option, IfSome, IfNone}
use Rattle.num_text.specs.Cuts.{FieldText, is_blank}
use Rattle.num_text.specs.Number.{IsNumber}

-- the first of the fields has this text, and the others are left
pub record TakesField (before : List FieldText) (text : List ℕ) (after : List FieldText) : Type 0 where
  pub field : FieldText
  pub fields_are : before ≡ field ∷ after
  pub text_is : field.text ≡ text

-- the bytes end at the index, or have a blank there
abbrev pub IsFieldEnd : List ℕ → ℕ → Type 0
IsFieldEnd bytes index = (index ≡ length bytes) ⊎ (is_blank (slice_index bytes index) ≡ true)

-- the number that the text spells, or none where it spells none
pub record IsReadNumber (text : List ℕ) (number : Option ℕ) : Type 0 where
  pub read : IfSome number (IsNumber text)
  pub none : IfNone number ((n : ℕ) → ¬ IsNumber text n)
