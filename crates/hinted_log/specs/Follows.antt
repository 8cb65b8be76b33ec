-- What the steps of a log follow from.
use Rattle.std.specs.Prelude.{◌≢◌, ℕ, ◌≤◌, Bool, List, Contains}
use Rattle.plain_lits.specs.declared.lit.Lit.{Lit}
use Rattle.hinted_log.specs.declared.step_kind.StepKind.TheVariants.{Derived}
use Rattle.hinted_log.specs.Logs.{Step, IsStepOf, Reaches, IsTrueUnder, step_at}

-- where the axioms and sides that a step reaches are true, so is its clause
abbrev pub FollowsFromReached : List Step → ℕ → Type 0
FollowsFromReached steps number = (truth : ℕ → Bool)
    → ((given : ℕ) → Reaches steps number given → (step_at steps given).kind ≢ Derived
    → IsTrueUnder truth (step_at steps given).clause)
    → IsTrueUnder truth (step_at steps number).clause

-- what a list of hints says, with each clause named by its step
abbrev pub FollowsFromHints : List Step → List ℕ → List Lit → Type 0
FollowsFromHints steps hints clause = (truth : ℕ → Bool)
    → ((hint : ℕ) → Contains hints hint → IsTrueUnder truth (step_at steps hint).clause)
    → IsTrueUnder truth clause

-- each step of a proof follows from the axioms and sides that it reaches; a step reaches itself and earlier
-- steps alone; and where all axioms and sides are true, each step is
pub record StepsFollow (steps : List Step) : Type 0 where
  pub from_reached : (number : ℕ) → IsStepOf steps number → FollowsFromReached steps number
  pub earlier : (number reached : ℕ) → IsStepOf steps number → Reaches steps number reached
      → IsStepOf steps reached × (reached ≤ number)
  pub from_given : (truth : ℕ → Bool)
      → ((given : ℕ) → IsStepOf steps given → (step_at steps given).kind ≢ Derived
      → IsTrueUnder truth (step_at steps given).clause)
      → (number : ℕ) → IsStepOf steps number → IsTrueUnder truth (step_at steps number).clause
