-- Names, in order of first declaration, and their numbers.
use Rattle.std.specs.Prelude.{◌≡◌, ℕ, ◌+◌, ◌<◌, ◌==◌, ◌||◌, Bool, true, if◌then◌else◌, List, [], ◌∷◌, ◌++◌, length, All, slice_get}
use Rattle.std.specs.Prelude.{slice_index_or, Some, nat_eq}
use Rattle.std.specs.Char.{is_ascii_alphanumeric}
use Rattle.std.specs.List.{list_any}
use Rattle.std.specs.Cmp.Lexicographic.{pointwise}

-- an ASCII letter, an ASCII digit or `_`
abbrev pub is_name_byte : ℕ → Bool
is_name_byte byte = is_ascii_alphanumeric byte || (byte == 95)

-- one or more of these bytes, and no other
pub record IsName (text : List ℕ) : Type 0 where
  pub not_empty : 0 < length text
  pub bytes : All (λ byte. is_name_byte byte ≡ true) text

-- whether the name stands among the names
unfoldable pub has_name : List (List ℕ) → List ℕ → Bool
has_name names name = list_any (pointwise nat_eq name) names

-- the names with this one among them: a new one comes last
unfoldable pub with_name : List (List ℕ) → List ℕ → List (List ℕ)
with_name names name = if has_name names name then names else names ++ name ∷ []

-- the number of a name: the first name has number 1
pub record IsNumberOf (names : List (List ℕ)) (name : List ℕ) (number : ℕ) : Type 0 where
  pub index : ℕ
  pub number_is : number ≡ index + 1
  pub there : slice_get names index ≡ Some name

-- each of them is a name
abbrev pub AreNames : List (List ℕ) → Type 0
AreNames names = All IsName names

-- no name stands twice among the names, so that each has one number
pub record AreDistinct (names : List (List ℕ)) : Type 0 where
  pub once : (i j : ℕ) (d e : List ℕ) → i < j → j < length names
      → slice_index_or names i d ≡ slice_index_or names j e → ⊥
