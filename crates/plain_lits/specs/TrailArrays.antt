-- The inner state of a trail, which no caller sees: how its arrays keep the true literals.
use Rattle.std.specs.Prelude.{◌≡◌, ◌≢◌, ℕ, ◌+◌, ◌<◌, ◌≤◌, List, length, slice_index, slice_index_or, sum_by}
use Rattle.plain_lits.specs.declared.lit.Lit.{Lit}
use Rattle.plain_lits.specs.declared.value.Value.{Value}
use Rattle.plain_lits.specs.declared.value.Value.TheVariants.{Unset}
use Rattle.plain_lits.specs.Values.{from_sign}
use Rattle.plain_lits.specs.Trails.{AreLevels}

-- 1 for a variable without a value
abbrev pub is_unset : Value → ℕ
is_unset Unset = 1
is_unset _ = 0

-- a literal's variable has its value, and its position among the true literals
pub record IsAssignedAt (l : Lit) (values : List Value) (positions : List ℕ) (position : ℕ) : Type 0 where
  pub within : l.var < length values
  pub value : slice_index_or values l.var Unset ≡ from_sign l.positive
  pub at : slice_index positions l.var ≡ position

-- the arrays have the value and the position of each true literal, and no other value
pub record AreAssigned (trail : List Lit) (values : List Value) (positions : List ℕ) : Type 0 where
  pub long : length values ≤ length positions
  pub assigned : (i : ℕ) (d : Lit) → i < length trail
      → IsAssignedAt (slice_index_or trail i d) values positions i
  pub backed : (v : ℕ) (d : Lit) → v < length values → slice_index_or values v Unset ≢ Unset
      → (slice_index positions v < length trail) × ((slice_index_or trail (slice_index positions v) d).var ≡ v)
  pub counted : length trail + sum_by is_unset values ≡ length values

-- the arrays of an assignment, with room for a literal of each variable
pub record IsAssignment (trail : List Lit) (values : List Value) (positions : List ℕ) (room : ℕ) : Type 0 where
  pub assigned : AreAssigned trail values positions
  pub fits : length values ≤ room

-- there is room for a further level wherever there is room for its first literal, now and after each return to
-- an earlier level
pub record HasLevelRoom (starts : List ℕ) (count vars capacity : ℕ) : Type 0 where
  pub first : vars ≤ capacity
  pub now : length starts + vars ≤ capacity + count
  pub then : (k : ℕ) → k < length starts → k + vars ≤ capacity + slice_index starts k

-- the levels of a trail: in order, with room for one before each literal
pub record IsTrail (starts : List ℕ) (count vars level_room : ℕ) : Type 0 where
  pub levels : AreLevels starts count
  pub deep : HasLevelRoom starts count vars level_room
