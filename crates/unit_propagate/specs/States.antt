-- These are a proof's inner states, between two steps of the propagator, which no caller sees: what the watch lists
-- and the trail keep to each other.
use Rattle.std.specs.Prelude.{◌≡◌, ◌≢◌, ℕ, ◌*◌, ◌^◌, ◌<◌, ◌≤◌, ◌==◌, List, length, take}
use Rattle.std.specs.Prelude.{Contains, Bool, slice_index, slice_index_or, sum_by, count_by}
use Rattle.std.specs.List.{list_any}
use Rattle.plain_lits.specs.declared.lit.Lit.{Lit}
use Rattle.plain_lits.specs.Literals.{negation}
use Rattle.plain_lits.specs.Packed.{packed}
use Rattle.plain_lits.specs.HintCheck.{clause_at, IsNamed}
use Rattle.clause_watches.specs.declared.pair.Pair.{Pair}
use Rattle.unit_propagate.specs.declared.watch_state.Progress.{Progress}
use Rattle.unit_propagate.specs.declared.watch_state.WatchState.{WatchState}
use Rattle.clause_watches.specs.Arenas.{pair_of}
use Rattle.unit_propagate.specs.Search.{IsReason, Search}
use Rattle.clause_watches.specs.Picks.{IsPairOf}
use Rattle.clause_watches.specs.WatchLists.{Listed, list_at, ids_at, one, watches}

-- the clauses with their pairs, the watch lists by code, the ids of the clauses that watch nothing, the trail with
-- its reasons, how far propagation had come when there were so many true literals as a mark's index and a level
-- began, and how far it has come: in the true literals, and in the clauses that watch nothing
pub record State : Type 0 where
  pub clauses : List (List Lit)
  pub pairs : List Pair
  pub lists : List Listed
  pub short : List ℕ
  pub lits : List Lit
  pub starts : List ℕ
  pub vars : ℕ
  pub reasons : List ℕ
  pub progress : List Progress
  pub head : ℕ
  pub done : ℕ

abbrev pub state_of : WatchState → State
state_of e = record {
  clauses = e.arena.clauses;
  pairs = e.arena.pairs;
  lists = e.lists.items;
  short = e.short.items;
  lits = e.trail.lits;
  starts = e.trail.starts;
  vars = e.trail.vars;
  reasons = e.reasons.items;
  progress = e.progress.items;
  head = e.head;
  done = e.done;
}

-- what callers see of a state
abbrev pub search_of : State → Search
search_of s = record {
  clauses = s.clauses;
  pairs = s.pairs;
  lits = s.lits;
  starts = s.starts;
  reasons = s.reasons;
  vars = s.vars;
}

abbrev pub no_progress : Progress
no_progress = record { head = 0; done = 0 }

abbrev pub progress_at : List Progress → ℕ → Progress
progress_at progress n = slice_index_or progress n no_progress

-- whether a clause holds the literal of a code
abbrev pub has : ℕ → List Lit → Bool
has code clause = list_any (λ l. packed l == code) clause

-- each list has just the clauses that watch its literal, each once, and room for all that hold the literal
pub record IsWatching (clauses : List (List Lit)) (pairs : List Pair) (lists : List Listed) : Type 0 where
  pub long : length pairs ≡ length clauses
  pub paired : (id : ℕ) → IsNamed clauses id → IsPairOf (clause_at clauses id) (pair_of pairs id)
  pub listed : (code id : ℕ) → sum_by (one id) (ids_at lists code) ≡ watches code (pair_of pairs id)
  pub counted : (code : ℕ) → length (ids_at lists code) ≡ sum_by (watches code) pairs
  pub room : (code : ℕ) → count_by (has code) clauses ≤ (list_at lists code).uses

-- where one watched literal is false by `low`, the other is true by `high`
pub record Guards (low high : List Lit) (p : Pair) : Type 0 where
  pub first : Contains low (negation p.first) → Contains high p.second
  pub second : Contains low (negation p.second) → Contains high p.first

-- a clause has a true literal
pub record HasTrue (clause lits : List Lit) : Type 0 where
  pub some : (l : Lit) × Contains clause l × Contains lits l

-- propagation has come so far: each pair guards, and the first clauses without a pair are true
pub record IsLooked (clauses : List (List Lit)) (pairs : List Pair) (short : List ℕ) (low high : List Lit)
    (done : ℕ) : Type 0 where
  pub guarded : (p : Pair) → Contains pairs p → p.first ≢ p.second → Guards low high p
  pub holds : (id : ℕ) → Contains (take done short) id → HasTrue (clause_at clauses id) high

-- the same when a level began at so many true literals
abbrev pub IsLookedAt : State → ℕ → Type 0
IsLookedAt s n =
    IsLooked s.clauses s.pairs s.short (take (progress_at s.progress n).head s.lits) (take n s.lits)
    (progress_at s.progress n).done

-- a clause that watches nothing
pub record IsShort (clauses : List (List Lit)) (pairs : List Pair) (id : ℕ) : Type 0 where
  pub named : IsNamed clauses id
  pub alone : (pair_of pairs id).first ≡ (pair_of pairs id).second

-- what holds of the clauses and of what watches them, whatever is true
pub record IsStored (clauses : List (List Lit)) (pairs : List Pair) (lists : List Listed) (alone : List ℕ)
    (vars : ℕ) : Type 0 where
  pub watching : IsWatching clauses pairs lists
  pub short : (id : ℕ) → Contains alone id → IsShort clauses pairs id
  pub all_short : (id : ℕ) → IsShort clauses pairs id → Contains alone id
  pub room : (id : ℕ) (l : Lit) → IsNamed clauses id → Contains (clause_at clauses id) l → l.var < vars
  pub lists_long : 2 * vars ≤ length lists
  pub ids_fit : length clauses < 2 ^ 32

-- how far propagation had come at each number of true literals is within the trail and the clauses
pub record AreMarks (progress : List Progress) (short : List ℕ) (vars : ℕ) : Type 0 where
  pub long : vars < length progress
  pub head : (n : ℕ) → (progress_at progress n).head ≤ n
  pub done : (n : ℕ) → (progress_at progress n).done ≤ length short

pub record IsKept (s : State) : Type 0 where
  pub stored : IsStored s.clauses s.pairs s.lists s.short s.vars
  pub looked : IsLooked s.clauses s.pairs s.short (take s.head s.lits) s.lits s.done
  pub before : (k : ℕ) → k < length s.starts → IsLookedAt s (slice_index s.starts k)
  pub reasons : (i : ℕ) → i < length s.lits → slice_index s.reasons i ≢ 0
      → IsReason s.clauses s.lits i (slice_index s.reasons i)
  pub head_within : s.head ≤ length s.lits
  pub done_within : s.done ≤ length s.short
  pub reasons_long : s.vars ≤ length s.reasons
  pub marks : AreMarks s.progress s.short s.vars
