-- What a contract sees of a log: steps that are numbered from 1, each with its clause and where it comes from.
use Rattle.std.specs.Prelude.{◌≡◌, ℕ, ◌+◌, ◌-◌, ◌<◌, ◌≤◌, Bool, not, List, [], ◌∷◌, ◌++◌, length, map, take}
use Rattle.std.specs.Prelude.{Contains, slice_index_or, Ok, if◌then◌else◌}
use Rattle.plain_lits.specs.declared.lit.Lit.{Lit}
use Rattle.plain_lits.specs.Literals.{negation}
use Rattle.plain_lits.specs.HintCheck.{Checks, IsTrueClause}
use Rattle.plain_lits.specs.Checking.{HaveRoomFor}
use Rattle.hinted_log.specs.declared.log.TheConstants.{MAX_STEPS}
use Rattle.hinted_log.specs.declared.step_kind.StepKind.{StepKind}
use Rattle.hinted_log.specs.declared.step_kind.StepKind.TheVariants.{Axiom, Side, Derived}

-- a step; a derived one keeps the hints that its check looked at, any other has none
pub record Step : Type 0 where
  pub clause : List Lit
  pub kind : StepKind
  pub hints : List ℕ

-- how many steps there may be, and the steps
pub record LogState : Type 0 where
  pub limit : ℕ
  pub steps : List Step

-- the clauses of steps
abbrev pub clauses_of : List Step → List (List Lit)
clauses_of steps = map (λ (s : Step). s.clause) steps

-- what stands where there is no step
abbrev pub no_step : Step
no_step = record { clause = []; kind = Axiom; hints = [] }

-- the step of a number
abbrev pub step_at : List Step → ℕ → Step
step_at steps number = slice_index_or steps (number - 1) no_step

-- a step of a kind that needs no hints
abbrev pub given_step : List Lit → StepKind → Step
given_step clause kind = record { clause = clause; kind = kind; hints = [] }

-- a derived step
abbrev pub derived_step : List Lit → List ℕ → Step
derived_step clause hints = record { clause = clause; kind = Derived; hints = hints }

-- a log with one more step
abbrev pub with_step : LogState → Step → LogState
with_step log step = record { limit = log.limit; steps = log.steps ++ step ∷ [] }

-- what a step has to meet beside those before it: the check takes a derived one, and the others have no hints
abbrev pub IsGiven : List Step → Step → StepKind → Type 0
IsGiven before step Axiom = step.hints ≡ []
IsGiven before step Side = step.hints ≡ []
IsGiven before step Derived =
    Checks negation (clauses_of before) step.clause step.hints (Ok (length step.hints))

-- each step meets this beside those before it
pub record IsProof (steps : List Step) : Type 0 where
  pub each : (k : ℕ) → k < length steps
      → IsGiven (take k steps) (slice_index_or steps k no_step) (slice_index_or steps k no_step).kind

-- a step is added at the end, and gets the next number
pub record AddsStep (old new : LogState) (step : Step) (number : ℕ) : Type 0 where
  pub new_log : new ≡ with_step old step
  pub next : number ≡ length old.steps + 1

-- a clause is taken with its hints, and the step keeps those that were looked at
pub record AddsDerived (old new : LogState) (clause : List Lit) (hints : List ℕ) (number : ℕ) : Type 0 where
  pub used : ℕ
  pub taken : Checks negation (clauses_of old.steps) clause hints (Ok used)
  pub added : AddsStep old new (derived_step clause (take used hints)) number

-- the form of a log: a proof, within the limit
pub record IsLog (log : LogState) : Type 0 where
  pub proof : IsProof log.steps
  pub within : length log.steps ≤ log.limit
  pub small : log.limit ≤ MAX_STEPS

-- a number names one of the steps
pub record IsStepOf (steps : List Step) (number : ℕ) : Type 0 where
  pub from_one : 0 < number
  pub within : number ≤ length steps

-- a step reaches itself, and what its hints reach
pub data Reaches (steps : List Step) : ℕ → ℕ → Type 0 where
  itself : (number : ℕ) → Reaches steps number number
  by_hint : (number hint reached : ℕ) → Contains (step_at steps number).hints hint
      → Reaches steps hint reached → Reaches steps number reached

-- what a literal reads as where each variable has a truth value
abbrev pub valuation_of : (ℕ → Bool) → Lit → Bool
valuation_of truth l = if l.positive then truth l.var else not (truth l.var)

-- a clause has a literal that is true
abbrev pub IsTrueUnder : (ℕ → Bool) → List Lit → Type 0
IsTrueUnder truth clause = IsTrueClause (valuation_of truth) clause

-- steps by their parts, side by side
abbrev pub steps_of : List (List Lit) → List StepKind → List (List ℕ) → List Step
steps_of [] kinds hints = []
steps_of (clause ∷ clauses) [] hints = []
steps_of (clause ∷ clauses) (kind ∷ kinds) [] = []
steps_of (clause ∷ clauses) (kind ∷ kinds) (hint ∷ hints) =
    record { clause = clause; kind = kind; hints = hint } ∷ steps_of clauses kinds hints

-- lists of parts for the same number of steps
pub record AreParts (clauses : List (List Lit)) (kinds : List StepKind) (hints : List (List ℕ)) : Type 0 where
  pub kinds_long : length kinds ≡ length clauses
  pub hints_long : length hints ≡ length clauses

-- the parts of a log: no literal is assumed between two calls, and each variable of a clause has room
pub record IsStored (log : LogState) (truths : List Lit) (vars : ℕ) : Type 0 where
  pub form : IsLog log
  pub clear : truths ≡ []
  pub room : HaveRoomFor vars (clauses_of log.steps)

-- the log of a limit and steps
abbrev pub log_of : ℕ → List Step → LogState
log_of limit steps = record { limit = limit; steps = steps }
