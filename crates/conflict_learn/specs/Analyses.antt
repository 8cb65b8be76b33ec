-- The state of an analysis, which walks down the true literals from the last.
use Rattle.std.specs.Prelude.{◌≡◌, ◌≢◌, ◌⊎◌, ℕ, zero, suc, ◌+◌, ◌-◌, ◌<◌, ◌≤◌, Bool, true, false, not, ◌&&◌, cond}
use Rattle.std.specs.Prelude.{List, length, take, reverse, Contains, Ok, slice_index, slice_index_or, nat_lt, ◌==◌}
use Rattle.plain_lits.specs.declared.lit.Lit.{Lit}
use Rattle.plain_lits.specs.Literals.{negation}
use Rattle.plain_lits.specs.HintCheck.{clause_at, Propagates}
use Rattle.unit_propagate.specs.Search.{Search}
use Rattle.conflict_learn.specs.declared.workspace.Border.{Border}
use Rattle.conflict_learn.specs.declared.workspace.Border.TheVariants.{Below, Assumed}
use Rattle.conflict_learn.specs.declared.workspace.Workspace.{Workspace}
use Rattle.conflict_learn.specs.Learning.{StandsAt}

-- which true literals are marked, how many of them are open, the literals of the clause so far, and the hints, of
-- which the last comes first
pub record Analysis : Type 0 where
  pub marks : List Bool
  pub open_count : ℕ
  pub clause : List Lit
  pub hints : List ℕ

abbrev pub analysis_of : Workspace → Analysis
analysis_of w = record {
  marks = w.marks.items;
  open_count = w.open_count;
  clause = w.clause.items;
  hints = w.hints.items;
}

abbrev pub is_marked : List Bool → ℕ → Bool
is_marked marks index = slice_index_or marks index false

-- no true literal is marked
pub record AreClear (marks : List Bool) : Type 0 where
  pub each : (index : ℕ) → is_marked marks index ≡ false

-- whether the negation of the true literal of an index goes into the clause
abbrev pub is_kept : Border → List ℕ → ℕ → Bool
is_kept (Below start) reasons index = nat_lt index start
is_kept Assumed reasons index = slice_index reasons index == 0

-- a true literal is open where it is marked and isn't kept
abbrev pub is_open : Border → List ℕ → List Bool → ℕ → Bool
is_open border reasons marks index = is_marked marks index && not (is_kept border reasons index)

-- how many numbers below one pass
abbrev pub count_to : (ℕ → Bool) → ℕ → ℕ
count_to f zero = 0
count_to f (suc n) = count_to f n + cond (f n) 1 0

-- the marks are of true literals, the open ones are counted, and the kept ones are those of the clause
pub record IsCounted (s : Search) (border : Border) (a : Analysis) : Type 0 where
  pub long : length s.lits ≤ length a.marks
  pub count : a.open_count ≡ count_to (is_open border s.reasons a.marks) (length a.marks)
  pub within : (index : ℕ) → is_marked a.marks index ≡ true → index < length s.lits
  pub in_clause : (index : ℕ) (l : Lit) → is_marked a.marks index ≡ true → is_kept border s.reasons index ≡ true
      → StandsAt s.lits index (negation l) → Contains a.clause l
  pub kept : (l : Lit) → Contains a.clause l
      → (index : ℕ) × StandsAt s.lits index (negation l) × (is_kept border s.reasons index ≡ true)

-- a false literal is met: it stands in the clause, or its negation is open
abbrev pub IsMet : Search → Border → Analysis → Lit → Type 0
IsMet s border a l =
    Contains a.clause l
    ⊎ ((index : ℕ) × StandsAt s.lits index (negation l) × (is_open border s.reasons a.marks index ≡ true))

-- some false literals are met, and what has come is theirs
pub record Meets (s : Search) (border : Border) (old new : Analysis) (P : Lit → Type 0) : Type 0 where
  pub hints_same : new.hints ≡ old.hints
  pub stay : (index : ℕ) → is_marked old.marks index ≡ true → is_marked new.marks index ≡ true
  pub back : (index : ℕ) → is_marked new.marks index ≡ true
      → (is_marked old.marks index ≡ true) ⊎ ((l : Lit) × P l × StandsAt s.lits index (negation l))
  pub clause_stay : (l : Lit) → Contains old.clause l → Contains new.clause l
  pub clause_back : (l : Lit) → Contains new.clause l → Contains old.clause l ⊎ P l
  pub met : (l : Lit) → P l → IsMet s border new l
  pub count : old.open_count ≤ new.open_count

-- a clause with hints, between which and the true literals below an index only marked literals stand
pub record IsWalk (clauses : List (List Lit)) (lits : List Lit) (index : ℕ) (clause : List Lit) (marked : ℕ → Bool)
    (hints : List ℕ) : Type 0 where
  -- where the marked literals and the negations of the clause are true, and but for the latter no literal from the
  -- index on is, the hints lead to a false clause
  pub leads : (truths : List Lit)
      → ((k : ℕ) (l : Lit) → marked k ≡ true → StandsAt lits k l → Contains truths l)
      → ((l : Lit) → Contains clause l → Contains truths (negation l))
      → ((l : Lit) → Contains truths l → Contains (take index lits) l ⊎ Contains clause (negation l))
      → (place : ℕ) → Propagates negation clauses truths place hints (Ok (place + length hints - 1))
  pub some : 0 < length hints
  pub used : (hint : ℕ) (l : Lit) → Contains hints hint → Contains (clause_at clauses hint) l
      → Contains clause l
      ⊎ (((k : ℕ) × StandsAt lits k (negation l) × (marked k ≡ true))
      ⊎ ((other : ℕ) × Contains hints other × Contains (clause_at clauses other) (negation l)))
  pub kept_come : (l : Lit) → Contains clause l
      → (hint : ℕ) × Contains hints hint × Contains (clause_at clauses hint) l
  pub open_come : (k : ℕ) (l : Lit) → marked k ≡ true → StandsAt lits k (negation l)
      → (hint : ℕ) × Contains hints hint × Contains (clause_at clauses hint) l

-- a walk has come down to an index
pub record IsAt (s : Search) (border : Border) (a : Analysis) (index : ℕ) : Type 0 where
  pub counted : IsCounted s border a
  pub within : index ≤ length s.lits
  pub below : (k : ℕ) → is_open border s.reasons a.marks k ≡ true → k < index
  pub walk : IsWalk s.clauses s.lits index a.clause (is_open border s.reasons a.marks) (reverse a.hints)

-- the literals of a clause but one
abbrev pub OthersOf : List Lit → Lit → Lit → Type 0
OthersOf clause but l = Contains clause l × (l ≢ but)

-- each literal of a clause is met
pub record HasMetAll (s : Search) (border : Border) (a : Analysis) (clause : List Lit) : Type 0 where
  pub each : (l : Lit) → Contains clause l → IsMet s border a l

-- the one open literal, by its index
pub record IsLastOpen (s : Search) (border : Border) (a : Analysis) (index : ℕ) : Type 0 where
  pub is : is_open border s.reasons a.marks index ≡ true
  pub within : index < length s.lits
  pub alone : (k : ℕ) → is_open border s.reasons a.marks k ≡ true → k ≡ index

-- the first unique implication point by its index: the one literal of the last level that is open
pub record IsFirstUip (s : Search) (start : ℕ) (a : Analysis) (index : ℕ) : Type 0 where
  pub before : ℕ
  pub at : IsAt s (Below start) a before
  pub last : IsLastOpen s (Below start) a index

-- one more than the highest index of the negations of a clause's literals, or 0
pub record IsReach (lits clause : List Lit) (reach : ℕ) : Type 0 where
  pub others : (l : Lit) → Contains clause l → Contains (take reach lits) (negation l)
  pub top : reach ≢ 0 → (l : Lit) × Contains clause l × StandsAt lits (reach - 1) (negation l)

-- the least level at which so many literals are true
pub record IsLevelOf (starts : List ℕ) (reach level : ℕ) : Type 0 where
  pub within : level ≤ length starts
  pub below : (k : ℕ) → k < level → slice_index starts k < reach
  pub above : (k : ℕ) → level ≤ k → k < length starts → reach ≤ slice_index starts k

-- the marks of a clause's first literals are taken away
pub record AreLeft (lits clause : List Lit) (marks : List Bool) (taken : ℕ) : Type 0 where
  pub within : (index : ℕ) → is_marked marks index ≡ true → index < length lits
  pub each : (index : ℕ) (l : Lit) → is_marked marks index ≡ true → StandsAt lits index (negation l)
      → (k : ℕ) × (taken ≤ k) × (k < length clause) × (slice_index_or clause k l ≡ l)
  pub long : length lits ≤ length marks
