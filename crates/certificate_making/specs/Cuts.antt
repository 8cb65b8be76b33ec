-- Refutations that are cut out of a log.
use Rattle.std.specs.Prelude.{ℕ, List, Contains}
use Rattle.certificate_claims.specs.declared.certificate.Refutation.{Refutation}
use Rattle.certificate_claims.specs.declared.certificate.Step.{Step}
use Rattle.oracle_face.specs.Logs.{OracleLog, IsNumberOf}
use Rattle.certificate_making.specs.Trimmed.{IsTrimmed}

-- the steps are those that a step of the log reaches, numbered anew and with their side clauses numbered by positions
pub record IsCutAt (log : OracleLog) (step : ℕ) (steps : List Step) : Type 0 where
  pub named : IsNumberOf log.steps step
  pub positions : List ℕ
  pub kept : List ℕ
  pub numbers : List ℕ
  pub trimmed : IsTrimmed log step positions kept numbers steps

-- the refutation is what some step of the log reaches
pub record IsCut (log : OracleLog) (refutation : Refutation) : Type 0 where
  pub step : ℕ
  pub at : IsCutAt log step refutation.steps

-- so is each of them
abbrev pub AreCut : OracleLog → List Refutation → Type 0
AreCut log refutations = (one : Refutation) → Contains refutations one → IsCut log one
