-- Fields that are numbers, and literals as numbers with a sign.
use Rattle.std.specs.Prelude.{◌≡◌, ℕ, ◌+◌, ◌≤◌, Bool, true, false, List, [], ◌∷◌, ◌++◌, Contains, codes, nat_eq, if◌then◌else◌}
use Rattle.std.specs.Cmp.Lexicographic.{pointwise}
use Rattle.num_text.specs.Number.{IsNumber}
use Rattle.plain_lits.specs.declared.lit.Lit.{Lit}

-- what stands before the digits of a literal
abbrev pub sign_text : Bool → List ℕ
sign_text true = []
sign_text false = codes "-"

-- the field is a number, which is the variable, with `-` before it for the negation
pub record IsSigned (field : List ℕ) (l : Lit) : Type 0 where
  pub digits : List ℕ
  pub field_is : field ≡ sign_text l.positive ++ digits
  pub number : IsNumber digits l.var

-- the field is the literal of a variable from 1 to some number
pub record SpellsLit (vars : ℕ) (field : List ℕ) (l : Lit) : Type 0 where
  pub signed : IsSigned field l
  pub from_one : 1 ≤ l.var
  pub within : l.var ≤ vars

-- the field that closes literals, and hints
abbrev pub is_zero : List ℕ → Bool
is_zero field = pointwise nat_eq field (codes "0")

-- some field is `0`
unfoldable pub has_zero : List (List ℕ) → Bool
has_zero [] = false
has_zero (field ∷ fields) = if is_zero field then true else has_zero fields

-- how many fields are `0`
unfoldable pub zeros : List (List ℕ) → ℕ
zeros [] = 0
zeros (field ∷ fields) = if is_zero field then 1 + zeros fields else zeros fields

-- the fields before the first `0`, and those behind it
unfoldable pub before_zero : List (List ℕ) → List (List ℕ)
before_zero [] = []
before_zero (field ∷ fields) = if is_zero field then [] else field ∷ before_zero fields

unfoldable pub behind_zero : List (List ℕ) → List (List ℕ)
behind_zero [] = []
behind_zero (field ∷ fields) = if is_zero field then fields else behind_zero fields

-- there is a field
abbrev pub is_filled : List (List ℕ) → Bool
is_filled [] = false
is_filled (field ∷ fields) = true

-- some field is no number
pub record HasNoNumber (fields : List (List ℕ)) : Type 0 where
  pub field : List ℕ
  pub listed : Contains fields field
  pub none : (n : ℕ) → IsNumber field n → ⊥

-- some field is no number, not with `-` before it either
pub record HasNoSigned (fields : List (List ℕ)) : Type 0 where
  pub field : List ℕ
  pub listed : Contains fields field
  pub none : (l : Lit) → IsSigned field l → ⊥
