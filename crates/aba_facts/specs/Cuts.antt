-- Where rising numbers reach a bound.
use Rattle.std.specs.Prelude.{◌≡◌, ℕ, ◌<◌, ◌≤◌, List, Contains, length, slice_index}
use Rattle.semantics.specs.AbaFrameworks.{Aba}
use Rattle.aba_notions.specs.Storage.{rule_at}

-- the first n of the numbers are below a bound, and the others are not
pub record IsCut (bound : ℕ) (numbers : List ℕ) (n : ℕ) : Type 0 where
  pub within : n ≤ length numbers
  pub before : (k : ℕ) → k < n → slice_index numbers k < bound
  pub after : (k : ℕ) → n ≤ k → k < length numbers → bound ≤ slice_index numbers k

-- y is the least of the numbers from a beginning on
pub record IsFirstFrom (numbers : List ℕ) (begin y : ℕ) : Type 0 where
  pub member : Contains numbers y
  pub late : begin ≤ y
  pub least : (z : ℕ) → Contains numbers z → begin ≤ z → y ≤ z

-- none of the numbers lies from the beginning to just before the end
abbrev pub IsClear : List ℕ → ℕ → ℕ → Type 0
IsClear numbers begin end = (y : ℕ) → Contains numbers y → begin ≤ y → y < end → ⊥

-- the framework's rule at the index has the number
pub record IsRuleAt (f : Aba) (index number : ℕ) : Type 0 where
  pub within : index < length f.rules
  pub numbered : (rule_at f.rules index).number ≡ number
