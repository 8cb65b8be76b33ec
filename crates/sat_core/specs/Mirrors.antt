-- The inner state of a solver, which no caller sees: the clauses of the propagator beside the steps of the log.
use Rattle.std.specs.Prelude.{◌≡◌, ◌≢◌, ◌⊎◌, ℕ, ◌+◌, ◌<◌, ◌≤◌, List, length, Contains}
use Rattle.std.specs.List.Sorted.{IsStrictlyIncreasing}
use Rattle.plain_lits.specs.declared.lit.Lit.{Lit}
use Rattle.hinted_log.specs.Logs.{Step, LogState, IsStepOf, step_at}
use Rattle.hinted_log.specs.declared.step_kind.StepKind.TheVariants.{Derived}
use Rattle.unit_propagate.specs.Search.{Search}
use Rattle.sat_core.specs.Solving.{clause_of, Holds, with_derived}
use Rattle.sleeping_clauses.specs.Steps.{IsMirror}
use Rattle.sleeping_clauses.specs.Sleeping.{AreSleepers, IsAsleep}
use Rattle.sleeping_clauses.specs.declared.sleepers.Sleeper.{Sleeper}

-- ids of clauses, each with a step
pub record AreIds (active ids : List ℕ) : Type 0 where
  pub from_one : (id : ℕ) → Contains ids id → 0 < id
  pub within : (id : ℕ) → Contains ids id → id ≤ length active

-- a derived step has come
pub record IsDerived (old new : LogState) (clause : List Lit) (hints : List ℕ) (number : ℕ) : Type 0 where
  pub log_is : new ≡ with_derived old clause hints
  pub next : number ≡ length old.steps + 1

-- a clause holds that of a step
pub record IsSubsuming (steps : List Step) (clause : List Lit) (number : ℕ) : Type 0 where
  pub step : IsStepOf steps number
  pub held : Holds clause (clause_of steps number)

-- a clause holds that of no step
abbrev pub HasNoSubsuming : List Step → List Lit → Type 0
HasNoSubsuming steps clause = (number : ℕ) → IsStepOf steps number → Holds clause (clause_of steps number) → ⊥

-- of steps, each is the propagator's or asleep
pub record AreShared (clauses : List (List Lit)) (awake : List ℕ) (asleep : List Sleeper) (active : List ℕ)
    (steps : List Step) : Type 0 where
  pub mirror : IsMirror clauses awake steps
  pub sleepers : AreSleepers steps asleep
  pub awake_of : (number : ℕ) → Contains awake number → Contains active number
  pub asleep_of : (x : Sleeper) → Contains asleep x → Contains active x.step
  pub covered : (number : ℕ) → Contains active number → Contains awake number ⊎ IsAsleep asleep number

-- the steps in use: each is the propagator's or asleep, each that is given is in use, and all variables are known
pub record IsHeld (s : Search) (awake : List ℕ) (asleep : List Sleeper) (active : List ℕ) (steps : List Step)
    : Type 0 where
  pub shared : AreShared s.clauses awake asleep active steps
  pub rises : IsStrictlyIncreasing active
  pub given : (number : ℕ) → IsStepOf steps number → (step_at steps number).kind ≢ Derived → Contains active number
  pub known : (number : ℕ) (l : Lit) → IsStepOf steps number → Contains (clause_of steps number) l → l.var < s.vars
