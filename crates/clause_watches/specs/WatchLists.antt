-- The ids of the clauses that watch a literal, with room for each clause that may come to do so.
use Rattle.std.specs.Prelude.{◌≡◌, ◌≢◌, ℕ, ◌+◌, ◌*◌, ◌<◌, ◌≤◌, ◌==◌, List, [], ◌∷◌, ◌++◌, length, if◌then◌else◌}
use Rattle.std.specs.Prelude.{slice_index_or, slice_set, sum_by}
use Rattle.std.specs.List.{swap_remove}
use Rattle.plain_lits.specs.Packed.{packed}
use Rattle.clause_watches.specs.declared.pair.Pair.{Pair}

-- the ids of a list, and how many the list has room for
pub record Listed : Type 0 where
  pub ids : List ℕ
  pub uses : ℕ

abbrev pub no_list : Listed
no_list = record { ids = []; uses = 0 }

-- the list of a literal, by the literal's code
abbrev pub list_at : List Listed → ℕ → Listed
list_at lists code = slice_index_or lists code no_list

abbrev pub ids_at : List Listed → ℕ → List ℕ
ids_at lists code = (list_at lists code).ids

-- 1 for the same number
abbrev pub one : ℕ → ℕ → ℕ
one a b = if a == b then 1 else 0

-- how often a pair watches the literal of a code: two literals that are the same watch nothing
abbrev pub watches : ℕ → Pair → ℕ
watches code p =
    if packed p.first == packed p.second then 0 else (one (packed p.first) code + one (packed p.second) code)

-- one more id in a list
abbrev pub with_id : List Listed → ℕ → ℕ → List Listed
with_id lists code id =
    slice_set lists code (record { ids = ids_at lists code ++ id ∷ []; uses = (list_at lists code).uses })

-- an id less in a list, at an index
abbrev pub without : List Listed → ℕ → ℕ → List Listed
without lists code at =
    slice_set lists code (record { ids = swap_remove (ids_at lists code) at 0; uses = (list_at lists code).uses })

-- the lists have the same ids, and no less room
pub record HasMoreRoom (old new : List Listed) : Type 0 where
  pub long : length old ≤ length new
  pub ids : (code : ℕ) → ids_at new code ≡ ids_at old code
  pub uses : (code : ℕ) → (list_at old code).uses ≤ (list_at new code).uses

-- a pair's id has come to the lists of its two literals
pub record Joins (old new : List Listed) (p : Pair) (id : ℕ) : Type 0 where
  pub long : length new ≡ length old
  pub uses : (code : ℕ) → (list_at new code).uses ≡ (list_at old code).uses
  pub weight : (f : ℕ → ℕ) (code : ℕ)
      → sum_by f (ids_at new code) ≡ sum_by f (ids_at old code) + watches code p * f id

-- one list has room for one more
pub record ClaimsOne (old new : List Listed) (code : ℕ) : Type 0 where
  pub room : HasMoreRoom old new
  pub more : (list_at old code).uses + 1 ≤ (list_at new code).uses

-- there is room for so many ids, and no more are there
pub record IsRoomy (ids : List ℕ) (uses capacity : ℕ) : Type 0 where
  pub within : length ids ≤ uses
  pub room : uses ≤ capacity

-- where a pair is of two literals, there is room for it in their lists
pub record HasPairRoom (lists : List Listed) (p : Pair) : Type 0 where
  pub first : p.first ≢ p.second → (packed p.first < length lists)
      × (length (ids_at lists (packed p.first)) < (list_at lists (packed p.first)).uses)
  pub second : p.first ≢ p.second → (packed p.second < length lists)
      × (length (ids_at lists (packed p.second)) < (list_at lists (packed p.second)).uses)
