-- What a clause that is learned from a conflict has to be.
use Rattle.std.specs.Prelude.{◌≡◌, ◌≢◌, ◌⊎◌, ℕ, ◌-◌, ◌<◌, ◌≤◌, List, length, take, Contains, Ok}
use Rattle.std.specs.Prelude.{slice_index, slice_index_or}
use Rattle.plain_lits.specs.declared.lit.Lit.{Lit}
use Rattle.plain_lits.specs.Literals.{negation}
use Rattle.plain_lits.specs.HintCheck.{clause_at, IsNamed, IsFalsified, IsUnit, IsTautology, Checks}
use Rattle.unit_propagate.specs.Search.{Search, IsQuiet}

-- how many literals were true before the last level
abbrev pub last_start : Search → ℕ
last_start s = slice_index s.starts (length s.starts - 1)

-- a literal is the true one of an index
pub record StandsAt (lits : List Lit) (index : ℕ) (l : Lit) : Type 0 where
  pub within : index < length lits
  pub is : (d : Lit) → slice_index_or lits index d ≡ l

-- a decision made the last level: of its literals the first alone may have no reason
pub record IsDecided (s : Search) : Type 0 where
  pub some : 0 < length s.starts
  pub rest : (index : ℕ) → last_start s < index → index < length s.lits → slice_index s.reasons index ≢ 0

-- propagation was done when the last level began
abbrev pub IsSettled : Search → Type 0
IsSettled s = IsQuiet s.clauses (take (last_start s) s.lits)

-- each literal of a clause stands in the clause of a hint
pub record ComesFromHints (clauses : List (List Lit)) (clause : List Lit) (hints : List ℕ) : Type 0 where
  pub each : (l : Lit) → Contains clause l
      → (hint : ℕ) × Contains hints hint × Contains (clause_at clauses hint) l

-- each hint is used: a literal of its clause stands in the learned clause, or its negation in another hint's clause
pub record AreUsed (clauses : List (List Lit)) (clause : List Lit) (hints : List ℕ) : Type 0 where
  pub each : (hint : ℕ) (l : Lit) → Contains hints hint → Contains (clause_at clauses hint) l
      → Contains clause l
      ⊎ ((other : ℕ) × Contains hints other × Contains (clause_at clauses other) (negation l))

-- a clause of false literals that the check takes at the last of its hints
pub record IsLearned (clauses : List (List Lit)) (lits clause : List Lit) (hints : List ℕ) : Type 0 where
  pub taken : Checks negation clauses clause hints (Ok (length hints))
  pub used : AreUsed clauses clause hints
  pub from_hints : ComesFromHints clauses clause hints
  pub all_false : IsFalsified negation lits clause

-- a clause is new to a list of clauses: it doesn't hold a literal and its negation, and holds no clause of the list
pub record IsNew (clauses : List (List Lit)) (clause : List Lit) : Type 0 where
  pub plain : IsTautology negation clause → ⊥
  pub holds_none : (id : ℕ) → IsNamed clauses id
      → ((l : Lit) → Contains (clause_at clauses id) l → Contains clause l) → ⊥

-- two different literals of a clause aren't false
pub record IsOpen (lits clause : List Lit) : Type 0 where
  pub one : Lit
  pub other : Lit
  pub one_there : Contains clause one
  pub other_there : Contains clause other
  pub apart : one ≢ other
  pub one_free : Contains lits (negation one) → ⊥
  pub other_free : Contains lits (negation other) → ⊥

-- what is left of the true literals once the levels above one are taken back, which is a level below the last
abbrev pub lits_at : Search → ℕ → List Lit
lits_at s level = take (slice_index s.starts level) s.lits

-- from a level on, below the last, a clause is unit by this literal
pub record IsUnitFrom (s : Search) (level : ℕ) (clause : List Lit) (lit : Lit) : Type 0 where
  pub each : (k : ℕ) → level ≤ k → k < length s.starts → IsUnit negation (lits_at s k) clause lit

-- at each lower level two literals of a clause aren't false
pub record IsOpenBelow (s : Search) (level : ℕ) (clause : List Lit) : Type 0 where
  pub each : (k : ℕ) → k < level → IsOpen (lits_at s k) clause

-- a literal is the negation of a true one that no clause made true
pub record IsAssumed (s : Search) (l : Lit) : Type 0 where
  pub index : ℕ
  pub stands : StandsAt s.lits index (negation l)
  pub free : slice_index s.reasons index ≡ 0
