-- These are a proof's inner states too: what one step of the propagator changes.
use Rattle.std.specs.Prelude.{◌≡◌, ◌≢◌, ◌⊎◌, ℕ, ◌+◌, ◌*◌, ◌-◌, ◌^◌, ◌<◌, ◌≤◌, List, [], ◌∷◌, ◌++◌, length}
use Rattle.std.specs.Prelude.{Contains, cond, slice_index, slice_index_or, slice_set, Option, Some, None}
use Rattle.std.specs.Prelude.{count_by}
use Rattle.plain_lits.specs.declared.lit.Lit.{Lit}
use Rattle.plain_lits.specs.Literals.{negation}
use Rattle.plain_lits.specs.Packed.{packed}
use Rattle.plain_lits.specs.HintCheck.{clause_at, IsNamed}
use Rattle.clause_watches.specs.declared.pair.Pair.{Pair}
use Rattle.unit_propagate.specs.declared.watch_state.Visit.{Visit}
use Rattle.unit_propagate.specs.declared.watch_state.Visit.TheVariants.{Kept, Moved, Failed}
use Rattle.clause_watches.specs.Arenas.{pair_of}
use Rattle.unit_propagate.specs.Search.{IsConflict, IsQuiet, AreGuarded, Learns}
use Rattle.clause_watches.specs.Picks.{IsUnfalse}
use Rattle.clause_watches.specs.WatchLists.{Listed, list_at, ids_at, with_id, without, HasMoreRoom, Joins}
use Rattle.unit_propagate.specs.States.{State, search_of, progress_at, has, no_progress}
use Rattle.clause_watches.specs.Picks.{IsPairOf}
use Rattle.unit_propagate.specs.declared.watch_state.Progress.{Progress}

-- a literal has come with its reason
abbrev pub with_literal : State → Lit → ℕ → State
with_literal s l id = record s {
  lits = s.lits ++ l ∷ [];
  reasons = slice_set s.reasons (length s.lits) id;
}

-- a level has begun, with the mark of how far propagation has come
abbrev pub with_mark : State → State
with_mark s = record s { progress = slice_set s.progress (length s.lits) (record { head = s.head; done = s.done }) }

-- a level begins where the literals end
abbrev pub begun : State → State
begun s = record s { starts = s.starts ++ length s.lits ∷ [] }

-- a clause watches another pair, and its id has moved to another list
abbrev pub with_pair : State → ℕ → Pair → ℕ → ℕ → ℕ → State
with_pair s id p from at to = record s {
  pairs = slice_set s.pairs (id - 1) p;
  lists = with_id (without s.lists from at) to id;
}

-- the clause at an index of the list of a false literal, with the two literals that it watches
pub record IsWatcher (s : State) (at id : ℕ) (falsified other : Lit) : Type 0 where
  pub within : at < length (ids_at s.lists (packed falsified))
  pub id_is : slice_index (ids_at s.lists (packed falsified)) at ≡ id
  pub named : IsNamed s.clauses id
  pub apart : falsified ≢ other
  pub pair : (((pair_of s.pairs id).first ≡ falsified) × ((pair_of s.pairs id).second ≡ other))
      ⊎ (((pair_of s.pairs id).first ≡ other) × ((pair_of s.pairs id).second ≡ falsified))

-- of the first clauses of the list of a false literal, the other watched literal is true
pub record AreDone (s : State) (falsified : Lit) (at : ℕ) : Type 0 where
  pub first : (i : ℕ) → i < at → i < length (ids_at s.lists (packed falsified))
      → (pair_of s.pairs (slice_index (ids_at s.lists (packed falsified)) i)).first ≡ falsified
      → Contains s.lits (pair_of s.pairs (slice_index (ids_at s.lists (packed falsified)) i)).second
  pub second : (i : ℕ) → i < at → i < length (ids_at s.lists (packed falsified))
      → (pair_of s.pairs (slice_index (ids_at s.lists (packed falsified)) i)).second ≡ falsified
      → Contains s.lits (pair_of s.pairs (slice_index (ids_at s.lists (packed falsified)) i)).first

-- literals have come, each with a reason
pub record Grows (old new : State) : Type 0 where
  pub clauses : new.clauses ≡ old.clauses
  pub starts : new.starts ≡ old.starts
  pub vars : new.vars ≡ old.vars
  pub short : new.short ≡ old.short
  pub lists : length new.lists ≡ length old.lists
  pub more : (rest : List Lit) × (new.lits ≡ old.lits ++ rest)
  pub reasons : (i : ℕ) → i < length old.lits → slice_index new.reasons i ≡ slice_index old.reasons i
  pub new_reasons : (i : ℕ) → length old.lits ≤ i → i < length new.lits → slice_index new.reasons i ≢ 0

-- what a visit of one clause gives
abbrev pub IsVisit : State → State → Lit → ℕ → Visit → Type 0
IsVisit old new falsified at Kept =
    AreDone new falsified (at + 1)
    × (length (ids_at new.lists (packed falsified)) ≡ length (ids_at old.lists (packed falsified)))
IsVisit old new falsified at Moved =
    AreDone new falsified at
    × (length (ids_at new.lists (packed falsified)) + 1 ≡ length (ids_at old.lists (packed falsified)))
IsVisit old new falsified at (Failed id) = IsConflict new.clauses new.lits id

-- the marks of levels are lowered to an index, and how far propagation has come
pub record Lowers (old new : State) (index : ℕ) : Type 0 where
  pub rest : new ≡ record old { progress = new.progress; head = new.head }
  pub long : length new.progress ≡ length old.progress
  pub head : new.head ≤ old.head
  pub head_low : new.head ≤ index
  pub progress : (n : ℕ) → (progress_at new.progress n).head ≤ (progress_at old.progress n).head
  pub dones : (n : ℕ) → (progress_at new.progress n).done ≡ (progress_at old.progress n).done
  pub marks_low : (k : ℕ) → k < length old.starts → (progress_at new.progress (slice_index old.starts k)).head ≤ index

-- each list of a literal of the clause has room for it
pub record HasRoomFor (s : State) (clause : List Lit) : Type 0 where
  pub uses : (code : ℕ) → count_by (has code) s.clauses + cond (has code clause) 1 0 ≤ (list_at s.lists code).uses

-- what a visit of a whole list gives: a false clause, or the other watched literals of all are true
abbrev pub HasVisited : State → Lit → Option ℕ → Type 0
HasVisited s falsified None = AreDone s falsified (length (ids_at s.lists (packed falsified)))
HasVisited s falsified (Some id) = IsConflict s.clauses s.lits id

-- what propagation finds
abbrev pub IsFound : State → Option ℕ → Type 0
IsFound s None = IsQuiet s.clauses s.lits × AreGuarded s.pairs s.lits
IsFound s (Some id) = IsConflict s.clauses s.lits id

-- a clause makes a literal true: it holds the literal, and its others are false
pub record IsImplied (s : State) (l : Lit) (id : ℕ) : Type 0 where
  pub named : IsNamed s.clauses id
  pub there : Contains (clause_at s.clauses id) l
  pub others : (x : Lit) → Contains (clause_at s.clauses id) x → x ≢ l → Contains s.lits (negation x)

-- a list is longer, and what is read of it is the same
pub record IsLonger {X : Type 0} (d : X) (old new : List X) : Type 0 where
  pub long : length old ≤ length new
  pub same : (i : ℕ) → slice_index_or new i d ≡ slice_index_or old i d

-- there is room for more variables and for more ids, and all else is the same
pub record MakesRoom (old new : State) : Type 0 where
  pub rest : new ≡ record old { lists = new.lists; vars = new.vars; reasons = new.reasons; progress = new.progress }
  pub lists : HasMoreRoom old.lists new.lists
  pub vars : old.vars ≤ new.vars
  pub reasons : IsLonger 0 old.reasons new.reasons
  pub progress : IsLonger no_progress old.progress new.progress
  pub lists_long : 2 * new.vars ≤ length new.lists
  pub reasons_long : new.vars ≤ length new.reasons
  pub marks_long : new.vars < length new.progress

-- a mark is lowered to an index
pub record LowersOne (old new : List Progress) (at index : ℕ) : Type 0 where
  pub others : (n : ℕ) → n ≢ at → progress_at new n ≡ progress_at old n
  pub long : length new ≡ length old
  pub head : (progress_at new at).head ≤ (progress_at old at).head
  pub done : (progress_at new at).done ≡ (progress_at old at).done
  pub low : (progress_at new at).head ≤ index

-- marks are lowered, from a level on to an index
pub record LowersProgress (old new : List Progress) (starts : List ℕ) (from index : ℕ) : Type 0 where
  pub long : length new ≡ length old
  pub heads : (n : ℕ) → (progress_at new n).head ≤ (progress_at old n).head
  pub dones : (n : ℕ) → (progress_at new n).done ≡ (progress_at old n).done
  pub low : (k : ℕ) → from ≤ k → k < length starts → (progress_at new (slice_index starts k)).head ≤ index

-- a clause has come with its pair and its id
pub record IsAdded (s : State) (lists : List Listed) (short : List ℕ) (clause : List Lit) (p : Pair)
    (id index : ℕ) : Type 0 where
  pub pair : IsPairOf clause p
  pub id_is : id ≡ length s.clauses + 1
  pub fits : id < 2 ^ 32
  pub known : (l : Lit) → Contains clause l → l.var < s.vars
  pub first : IsUnfalse s.lits p.first index
  pub second : IsUnfalse s.lits p.second index
  pub head : s.head ≤ index
  pub progress : (k : ℕ) → k < length s.starts → (progress_at s.progress (slice_index s.starts k)).head ≤ index
  pub room : HasRoomFor s clause
  pub joins : Joins s.lists lists p id
  pub alone : p.first ≡ p.second → short ≡ s.short ++ id ∷ []
  pub apart : p.first ≢ p.second → short ≡ s.short

-- the state with one clause more
abbrev pub with_clause : State → List Listed → List ℕ → List Lit → Pair → State
with_clause s lists short clause p = record s {
  clauses = s.clauses ++ clause ∷ [];
  pairs = s.pairs ++ p ∷ [];
  lists = lists;
  short = short;
}

-- how far propagation has come is no further than an index, now and at each level
pub record IsLow (s : State) (index : ℕ) : Type 0 where
  pub head : s.head ≤ index
  pub progress : (k : ℕ) → k < length s.starts → (progress_at s.progress (slice_index s.starts k)).head ≤ index

-- a clause has come, and the trail is the same
pub record Inserts (old new : State) (clause : List Lit) : Type 0 where
  pub clauses : new.clauses ≡ old.clauses ++ clause ∷ []
  pub lits : new.lits ≡ old.lits
  pub starts : new.starts ≡ old.starts
  pub vars : new.vars ≡ old.vars
  pub reasons : new.reasons ≡ old.reasons

-- there is room for a clause and its variables, which can be packed
pub record IsReady (s : State) (clause : List Lit) : Type 0 where
  pub known : (l : Lit) → Contains clause l → l.var < s.vars
  pub packs : (l : Lit) → Contains clause l → l.var < 2 ^ 31
  pub room : HasRoomFor s clause

-- a literal is true, and what has come is that literal or nothing, without a reason
pub record Assumes (old new : State) (l : Lit) : Type 0 where
  pub clauses : new.clauses ≡ old.clauses
  pub starts : new.starts ≡ old.starts
  pub vars : new.vars ≡ old.vars
  pub more : (rest : List Lit) × (new.lits ≡ old.lits ++ rest) × ((x : Lit) → Contains rest x → x ≡ l)
  pub assumed : Contains new.lits l
  pub reasons : (i : ℕ) → i < length old.lits → slice_index new.reasons i ≡ slice_index old.reasons i
  pub new_reasons : (i : ℕ) → length old.lits ≤ i → i < length new.lits → slice_index new.reasons i ≡ 0

-- so are all of a list
pub record AssumesAll (old new : State) (block : List Lit) : Type 0 where
  pub clauses : new.clauses ≡ old.clauses
  pub starts : new.starts ≡ old.starts
  pub vars : new.vars ≡ old.vars
  pub more : (rest : List Lit) × (new.lits ≡ old.lits ++ rest) × ((x : Lit) → Contains rest x → Contains block x)
  pub assumed : (l : Lit) → Contains block l → Contains new.lits l
  pub reasons : (i : ℕ) → i < length old.lits → slice_index new.reasons i ≡ slice_index old.reasons i
  pub new_reasons : (i : ℕ) → length old.lits ≤ i → i < length new.lits → slice_index new.reasons i ≡ 0

-- the state without clauses and literals
pub record IsOpened (s : State) : Type 0 where
  pub clauses : s.clauses ≡ []
  pub lits : s.lits ≡ []
  pub starts : s.starts ≡ []

-- what callers see of a learned clause that has come
abbrev pub HasLearned : State → State → List Lit → Lit → ℕ → Type 0
HasLearned old new clause lit id = Learns (search_of old) (search_of new) clause lit id
