-- What a refutation that is made from a log has to be.
use Rattle.std.specs.Prelude.{ℕ, ◌-◌, ◌<◌, ◌≤◌, List, [], All, Contains, length, slice_index_or}
use Rattle.semantics.specs.Frameworks.{Framework}
use Rattle.certificate_claims.specs.declared.certificate.Step.{Step}
use Rattle.certificate_claims.specs.declared.certificate.Step.TheVariants.{Derived}
use Rattle.certificate_claims.specs.Refutations.{Claim, IsPlain, IsRefutationOf, no_step}
use Rattle.certificate_text.specs.Written.{IsWritableStep}
use Rattle.oracle_face.specs.Goals.{Refutes}
use Rattle.oracle_face.specs.Logs.{OracleLog, IsLog}
use Rattle.session_log.specs.Guards.{IsGuarded}
use Rattle.certificate_making.specs.Trimmed.{ArePositions, HaveSmallNumbers, IsTrimmed}

-- a step of a certificate reaches itself, and what its hints reach; steps are numbered from 1
abbrev pub hints_in : Step → List ℕ
hints_in (Derived literals hints) = hints
hints_in _ = []

abbrev pub step_of : List Step → ℕ → Step
step_of steps number = slice_index_or steps (number - 1) no_step

pub data ReachesStep (steps : List Step) : ℕ → ℕ → Type 0 where
  step_itself : (number : ℕ) → ReachesStep steps number number
  step_by_hint : (number hint reached : ℕ) → Contains (hints_in (step_of steps number)) hint
      → ReachesStep steps hint reached → ReachesStep steps number reached

-- no step could be left out: the last one reaches each
abbrev pub AreAllReached : List Step → Type 0
AreAllReached steps = (number : ℕ) → 0 < number → number ≤ length steps → ReachesStep steps (length steps) number

-- the steps refute the claim, and none could be left out
pub record AreRefuting (f : Framework) (claim : Claim) (steps : List Step) : Type 0 where
  pub refutation : IsRefutationOf f claim steps
  pub reached : AreAllReached steps

-- a step of a guarded log refutes a claim, in which the log's side clauses have these positions
pub record IsRefutingStep (f : Framework) (log : OracleLog) (claim : Claim) (step : ℕ)
    (positions : List ℕ) : Type 0 where
  pub form : IsLog f log
  pub guards : IsGuarded log
  pub plain : IsPlain claim
  pub refutes : Refutes f log claim step
  pub stands : ArePositions log.sides claim positions

-- what such a step reaches, moved into the claim, refutes it there
abbrev pub TrimmedRefutes : Type 0
TrimmedRefutes = (f : Framework) (log : OracleLog) (claim : Claim) (step : ℕ) (positions kept numbers : List ℕ)
    (steps : List Step) → IsRefutingStep f log claim step positions
    → IsTrimmed log step positions kept numbers steps → AreRefuting f claim steps

-- a text can hold it where the numbers have 32 bits
abbrev pub TrimmedFits : Type 0
TrimmedFits = (f : Framework) (log : OracleLog) (claim : Claim) (step : ℕ) (positions kept numbers : List ℕ)
    (steps : List Step) → IsRefutingStep f log claim step positions
    → IsTrimmed log step positions kept numbers steps → HaveSmallNumbers step positions → All IsWritableStep steps
