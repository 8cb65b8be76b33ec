-- What contracts see of a solver, and what a search tells and leaves.
use Rattle.std.specs.Prelude.{◌≡◌, ◌⊎◌, ℕ, ◌+◌, ◌<◌, ◌≤◌, List, [], ◌∷◌, ◌++◌, length, take, Contains, Option, None}
use Rattle.std.specs.Prelude.{Some, Result, Ok, Err, slice_index_or}
use Rattle.std.specs.List.Sorted.{IsStrictlyIncreasing}
use Rattle.plain_lits.specs.declared.lit.Lit.{Lit}
use Rattle.plain_lits.specs.declared.halt.Halt.{Halt}
use Rattle.plain_lits.specs.declared.halt.Halt.TheVariants.{Spent, LogFull, Memory}
use Rattle.plain_lits.specs.Literals.{negation}
use Rattle.plain_lits.specs.HintCheck.{IsTautology, Checks}
use Rattle.plain_lits.specs.Units.{Units}
use Rattle.hinted_log.specs.Logs.{Step, LogState, log_of, no_step, IsLog, IsStepOf, clauses_of, given_step}
use Rattle.hinted_log.specs.Logs.{derived_step, AddsStep, AddsDerived}
use Rattle.hinted_log.specs.declared.step_kind.StepKind.TheVariants as kind
pub use Rattle.sleeping_clauses.specs.Steps.{clause_of, Holds}
use Rattle.sat_core.specs.declared.answer.Added.{Added}
use Rattle.sat_core.specs.declared.answer.Added.TheVariants.{Axiom, Side, Derived}
use Rattle.sat_core.specs.declared.answer.UnaddedClause.{UnaddedClause}
use Rattle.sat_core.specs.declared.answer.Solved.{Solved}
use Rattle.sat_core.specs.declared.answer.Solved.TheVariants.{Model, Core}

-- the log; the numbers of its steps that are in use, which are all but those that closed a search; and the clause that
-- was in hand when the last search's budget ended
pub record SolverState : Type 0 where
  pub log : LogState
  pub active : List ℕ
  pub pending : Option UnaddedClause

-- the form of a solver: a log, and steps of it in the order of their numbers
pub record IsSolver (s : SolverState) : Type 0 where
  pub log_form : IsLog s.log
  pub rises : IsStrictlyIncreasing s.active
  pub named : (number : ℕ) → Contains s.active number → IsStepOf s.log.steps number

-- steps in use show a clause: the check takes it by them, and needs each; each literal of the clause stands in a
-- hint's clause
pub record IsShown (s : SolverState) (clause : List Lit) (hints : List ℕ) : Type 0 where
  pub taken : Checks negation (clauses_of s.log.steps) clause hints (Ok (length hints))
  pub in_use : (hint : ℕ) → Contains hints hint → Contains s.active hint
  pub used : (hint : ℕ) (l : Lit) → Contains hints hint → Contains (clause_of s.log.steps hint) l
      → Contains clause l
      ⊎ ((other : ℕ) × Contains hints other × Contains (clause_of s.log.steps other) (negation l))
  pub from_hints : (l : Lit) → Contains clause l
      → (hint : ℕ) × Contains hints hint × Contains (clause_of s.log.steps hint) l

-- a clause is new: it doesn't hold a literal and its negation, and it holds the clause of no step in use
pub record IsNewTo (s : SolverState) (clause : List Lit) : Type 0 where
  pub plain : IsTautology negation clause → ⊥
  pub holds_none : (number : ℕ) → Contains s.active number → Holds clause (clause_of s.log.steps number) → ⊥

-- a clause may be learned under assumptions: it is shown and new, and none of its literals is assumed
pub record IsUnitOf (s : SolverState) (assumptions clause : List Lit) (hints : List ℕ) : Type 0 where
  pub shown : IsShown s clause hints
  pub fresh : IsNewTo s clause
  pub unassumed : (l : Lit) → Contains clause l → Contains assumptions l → ⊥

-- a log with one derived step more
abbrev pub with_derived : LogState → List Lit → List ℕ → LogState
with_derived log clause hints = record { limit = log.limit; steps = log.steps ++ derived_step clause hints ∷ [] }

-- a solver with one step more, which is in use
abbrev pub with_unit : SolverState → List Lit → List ℕ → SolverState
with_unit s clause hints = record {
  log = with_derived s.log clause hints;
  active = s.active ++ (length s.log.steps + 1) ∷ [];
  pending = s.pending;
}

-- so many clauses are learned, one after the other
pub data Learns (assumptions : List Lit) : SolverState → SolverState → ℕ → Type 0 where
  nothing : (s : SolverState) → Learns assumptions s s 0
  one_more : (old mid : SolverState) (count : ℕ) (clause : List Lit) (hints : List ℕ)
      → Learns assumptions old mid count → IsUnitOf mid assumptions clause hints
      → Learns assumptions old (with_unit mid clause hints) (count + 1)

-- a solver that keeps no clause of an earlier search
abbrev pub begun : SolverState → SolverState
begun s = record { log = s.log; active = s.active; pending = None }

-- the literals of a step's clause are negated assumptions
pub record IsCore (steps : List Step) (assumptions : List Lit) (number : ℕ) : Type 0 where
  pub step : IsStepOf steps number
  pub negated : (l : Lit) → Contains (clause_of steps number) l → Contains assumptions (negation l)

-- a search ends with a step more, which isn't in use, and whose clause holds that of no step
pub record Closes (old new : SolverState) (number : ℕ) : Type 0 where
  pub clause : List Lit
  pub hints : List ℕ
  pub shown : IsShown old clause hints
  pub holds_none : (n : ℕ) → IsStepOf old.log.steps n → Holds clause (clause_of old.log.steps n) → ⊥
  pub next : number ≡ length old.log.steps + 1
  pub log_is : new.log ≡ with_derived old.log clause hints
  pub active_same : new.active ≡ old.active
  pub pending_same : new.pending ≡ old.pending

-- each assumption and each clause in use is true; no literal stands beside its negation, and each literal of a clause
-- in use has a value
pub record IsModel (s : SolverState) (assumptions lits : List Lit) : Type 0 where
  pub plain : IsTautology negation lits → ⊥
  pub assumed : (l : Lit) → Contains assumptions l → Contains lits l
  pub satisfied : (number : ℕ) → Contains s.active number
      → (l : Lit) × Contains (clause_of s.log.steps number) l × Contains lits l
  pub total : (number : ℕ) → Contains s.active number → (l : Lit) → Contains (clause_of s.log.steps number) l
      → Contains lits l ⊎ Contains lits (negation l)

-- the budget is spent, and a further clause that may be learned is kept
pub record IsSpent (s : SolverState) (assumptions : List Lit) (budget : Units) (count : ℕ) : Type 0 where
  pub is_limit : count ≡ budget.limit
  pub is_used : count ≡ budget.used
  pub in_hand : UnaddedClause
  pub kept : s.pending ≡ Some in_hand
  pub further : IsUnitOf s assumptions in_hand.clause in_hand.hints

-- a search ends with a step whose clause refutes its assumptions: it was there, or it is a step more
pub record EndsCore (learned new : SolverState) (assumptions : List Lit) (number : ℕ) : Type 0 where
  pub core : IsCore new.log.steps assumptions number
  pub closed : (new ≡ learned) ⊎ Closes learned new number

-- what stops a search, and what it leaves: the budget was spent, or the log is full
abbrev pub StopsAs : SolverState → SolverState → List Lit → Units → Halt → Type 0
StopsAs learned new assumptions budget (Spent count) =
    (new.log ≡ learned.log) × (new.active ≡ learned.active) × IsSpent new assumptions budget count
StopsAs learned new assumptions budget LogFull = (new ≡ learned) × (length new.log.steps ≡ new.log.limit)
StopsAs learned new assumptions budget Memory = Unit {0}

-- what a search tells, and what it leaves where these clauses were learned
abbrev pub EndsAs : SolverState → SolverState → List Lit → Units → Result Solved Halt → Type 0
EndsAs learned new assumptions budget (Ok (Model lits)) = (new ≡ learned) × IsModel new assumptions lits
EndsAs learned new assumptions budget (Ok (Core step)) = EndsCore learned new assumptions step
EndsAs learned new assumptions budget (Err halt) = StopsAs learned new assumptions budget halt

-- a search: clauses are learned, for each of which a unit is spent, and then it ends
pub record HasSearched (old new : SolverState) (assumptions : List Lit) (before after : Units)
    (result : Result Solved Halt) : Type 0 where
  pub learned : SolverState
  pub count : ℕ
  pub learns : Learns assumptions (begun old) learned count
  pub spent : after.used ≡ before.used + count
  pub ends : EndsAs learned new assumptions after result

-- whatever a call tells, the log and the steps in use are the same from the front on, and what comes into use is new
pub record Keeps (old new : SolverState) : Type 0 where
  pub limit : new.log.limit ≡ old.log.limit
  pub more_steps : (more : List Step) × (new.log.steps ≡ old.log.steps ++ more)
  pub more_active : (more : List ℕ) × (new.active ≡ old.active ++ more)
  pub later : (number : ℕ) → Contains new.active number → Contains old.active number
      ⊎ (length old.log.steps < number)

-- a solver with so many of its first steps
abbrev pub front : SolverState → ℕ → SolverState
front s k = record { log = log_of s.log.limit (take k s.log.steps); active = s.active; pending = s.pending }

-- the step at an index is shown by steps in use before it
pub record IsShownAt (s : SolverState) (k : ℕ) : Type 0 where
  pub shown : IsShown (front s k) (slice_index_or s.log.steps k no_step).clause
      (slice_index_or s.log.steps k no_step).hints

-- whatever a search tells, each step that comes is shown by steps in use before it
pub record Derives (old new : SolverState) : Type 0 where
  pub keeps : Keeps old new
  pub each : (k : ℕ) → length old.log.steps ≤ k → k < length new.log.steps → IsShownAt new k

-- a log gains a clause as one that is given or derived, and the step gets the next number
abbrev pub Records : LogState → LogState → List Lit → Added → ℕ → Type 0
Records old new clause Axiom number = AddsStep old new (given_step clause kind.Axiom) number
Records old new clause Side number = AddsStep old new (given_step clause kind.Side) number
Records old new clause (Derived hints) number = AddsDerived old new clause hints number

-- a clause comes, and its step is in use
pub record AddsTo (old new : SolverState) (clause : List Lit) (how : Added) (number : ℕ) : Type 0 where
  pub recorded : Records old.log new.log clause how number
  pub in_use : new.active ≡ old.active ++ number ∷ []
  pub pending_same : new.pending ≡ old.pending

-- the check of the hints rejects a clause at a place
abbrev pub IsRejected : LogState → List Lit → Added → ℕ → Type 0
IsRejected log clause Axiom place = ⊥
IsRejected log clause Side place = ⊥
IsRejected log clause (Derived hints) place = Checks negation (clauses_of log.steps) clause hints (Err place)
