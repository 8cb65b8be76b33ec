-- Steps that the propagator leaves out for now, and one that is built anew without them.
use Rattle.std.specs.Prelude.{◌≡◌, ◌⊎◌, ℕ, List, [], Contains}
use Rattle.plain_lits.specs.declared.lit.Lit.{Lit}
use Rattle.hinted_log.specs.Logs.{Step, IsStepOf, step_at}
use Rattle.hinted_log.specs.declared.step_kind.StepKind.TheVariants.{Derived}
use Rattle.sleeping_clauses.specs.declared.sleepers.Sleeper.{Sleeper}
use Rattle.sleeping_clauses.specs.declared.loading.Loaded.{Loaded}
use Rattle.sleeping_clauses.specs.Steps.{clause_of, Holds, IsMirror, HasRoom}

-- a sleeper is a step that is derived, with a literal of its clause
pub record IsSleeper (steps : List Step) (x : Sleeper) : Type 0 where
  pub step : IsStepOf steps x.step
  pub derived : (step_at steps x.step).kind ≡ Derived
  pub key : Contains (clause_of steps x.step) x.key

abbrev pub AreSleepers : List Step → List Sleeper → Type 0
AreSleepers steps asleep = (x : Sleeper) → Contains asleep x → IsSleeper steps x

-- a step as a sleeper
pub record SleepsAs (steps : List Step) (number : ℕ) (x : Sleeper) : Type 0 where
  pub same : x.step ≡ number
  pub is : IsSleeper steps x

-- a step is asleep
pub record IsAsleep (asleep : List Sleeper) (number : ℕ) : Type 0 where
  pub sleeper : Sleeper
  pub there : Contains asleep sleeper
  pub same : sleeper.step ≡ number

-- a clause holds that of no sleeper
abbrev pub HasNoSubsumingSleeper : List Step → List Sleeper → List Lit → Type 0
HasNoSubsumingSleeper steps asleep clause =
    (x : Sleeper) → Contains asleep x → Holds clause (clause_of steps x.step) → ⊥

-- a propagator without true literals has the steps of a list, but for those that sleep
pub record AreLoaded (loaded : Loaded) (asleep : List Sleeper) (awake : List ℕ) (steps : List Step) : Type 0 where
  pub mirror : IsMirror loaded.search.clauses loaded.awake.items steps
  pub sleepers : AreSleepers steps loaded.asleep.items
  pub awake_of : (number : ℕ) → Contains loaded.awake.items number → Contains awake number
  pub asleep_of : (x : Sleeper) → Contains loaded.asleep.items x → Contains asleep x ⊎ Contains awake x.step
  pub kept : (x : Sleeper) → Contains asleep x → Contains loaded.asleep.items x
  pub covered : (number : ℕ) → Contains awake number
      → Contains loaded.awake.items number ⊎ IsAsleep loaded.asleep.items number
  pub none : loaded.search.lits ≡ []
  pub starts : loaded.search.starts ≡ []
  pub room : HasRoom loaded.search
