-- The inner state of a search, which no caller sees: the first level has the front, which is kept from one search to
-- the next, the second has the other assumptions, and each level above them was begun by a decision when nothing was
-- left to propagate.
use Rattle.std.specs.Prelude.{◌≡◌, ◌⊎◌, ℕ, ◌<◌, ◌≤◌, Bool, true, false, List, length, take, Contains, Option, None}
use Rattle.std.specs.Prelude.{Some, slice_index, slice_index_or}
use Rattle.plain_lits.specs.declared.lit.Lit.{Lit}
use Rattle.plain_lits.specs.declared.value.Value.TheVariants.{Unset}
use Rattle.plain_lits.specs.Values.{IsValueIn}
use Rattle.unit_propagate.specs.Search.{Search, IsQuiet, IsConflict}
use Rattle.conflict_learn.specs.Learning.{StandsAt}
use Rattle.sleeping_clauses.specs.Steps.{HasRoom}

-- an index lies below each level but the first two
pub record IsEarly (starts : List ℕ) (index : ℕ) : Type 0 where
  pub below : (k : ℕ) → 1 < k → k < length starts → index < slice_index starts k

-- a level after the first two begins at an index
pub record BeginsAt (starts : List ℕ) (index : ℕ) : Type 0 where
  pub level : ℕ
  pub later : 1 < level
  pub within : level < length starts
  pub is : index ≡ slice_index starts level

-- an assumption is true on the first two levels
pub record IsThere (s : Search) (l : Lit) : Type 0 where
  pub index : ℕ
  pub stands : StandsAt s.lits index l
  pub early : IsEarly s.starts index

-- a literal without a reason is an assumption on the first two levels
pub record IsGround (s : Search) (assumptions : List Lit) (index : ℕ) : Type 0 where
  pub assumed : (d : Lit) → Contains assumptions (slice_index_or s.lits index d)
  pub early : IsEarly s.starts index

-- how many literals are true on the first level
abbrev pub front_end : Search → ℕ
front_end s = slice_index_or s.starts 1 (length s.lits)

-- a literal of the front is true on the first level
pub record IsAtFront (s : Search) (l : Lit) : Type 0 where
  pub index : ℕ
  pub stands : StandsAt s.lits index l
  pub within : index < front_end s

-- no literal is true before the first level, which has the front and what follows; each clause's variables are known
pub record IsFronted (front : List Lit) (s : Search) : Type 0 where
  pub base : slice_index_or s.starts 0 (length s.lits) ≡ 0
  pub there : (l : Lit) → Contains front l → IsAtFront s l
  pub free : (index : ℕ) → index < length s.lits → index < front_end s → slice_index s.reasons index ≡ 0
      → (d : Lit) → Contains front (slice_index_or s.lits index d)
  pub room : HasRoom s

-- a search under assumptions
pub record IsRun (front assumptions : List Lit) (s : Search) : Type 0 where
  pub some : 1 < length s.starts
  pub there : (l : Lit) → Contains assumptions l → IsThere s l
  pub free : (index : ℕ) → index < length s.lits → slice_index s.reasons index ≡ 0
      → IsGround s assumptions index ⊎ BeginsAt s.starts index
  pub fronted : IsFronted front s
  pub settled : (k : ℕ) → 1 < k → k < length s.starts → IsQuiet s.clauses (take (slice_index s.starts k) s.lits)

-- there is no level but the first
pub record IsResting (front : List Lit) (s : Search) : Type 0 where
  pub fronted : IsFronted front s
  pub few : length s.starts ≤ 1

-- the first level is ready for assumptions: it is there, and its front is part of them
pub record IsReadyFor (front assumptions : List Lit) (s : Search) : Type 0 where
  pub fronted : IsFronted front s
  pub one : length s.starts ≡ 1
  pub part : (l : Lit) → Contains front l → Contains assumptions l

-- a variable has a value
abbrev pub HasValue : List Lit → ℕ → Type 0
HasValue lits v =
    Contains lits (record { var = v; positive = false }) ⊎ Contains lits (record { var = v; positive = true })

-- each known variable has a value, from one on; and from the first on
pub record HaveValuesFrom (from : ℕ) (s : Search) : Type 0 where
  pub each : (v : ℕ) → from ≤ v → v < s.vars → HasValue s.lits v

abbrev pub HaveValues : Search → Type 0
HaveValues s = HaveValuesFrom 0 s

-- a literal's variable is known and has no value
pub record IsUnsetIn (s : Search) (l : Lit) : Type 0 where
  pub known : l.var < s.vars
  pub unset : IsValueIn s.lits l Unset

-- a variable is known and has no value
pub record IsUnsetVar (s : Search) (v : ℕ) : Type 0 where
  pub either : (positive : Bool) → IsUnsetIn s (record { var = v; positive = positive })

-- what propagation gives: a false clause, or nothing is left to do
abbrev pub HasPropagated : Search → Option ℕ → Type 0
HasPropagated s (Some id) = IsConflict s.clauses s.lits id
HasPropagated s None = IsQuiet s.clauses s.lits

-- what a descent gives: a false clause, or nothing is left to do and all variables have values
abbrev pub HasDecided : Search → Option ℕ → Type 0
HasDecided s (Some id) = IsConflict s.clauses s.lits id
HasDecided s None = IsQuiet s.clauses s.lits × HaveValues s

-- the search goes on with other literals: the clauses and the known variables are the same
pub record GoesOn (old new : Search) : Type 0 where
  pub clauses : new.clauses ≡ old.clauses
  pub vars : new.vars ≡ old.vars
  pub run : (front assumptions : List Lit) → IsRun front assumptions old → IsRun front assumptions new
