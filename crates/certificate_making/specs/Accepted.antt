-- An answer that a log shows has a certificate that is accepted.
use Rattle.std.specs.Prelude.{ℕ, List, Contains}
use Rattle.semantics.specs.Frameworks.{Framework}
use Rattle.iccma_tasks.specs.declared.answer.Answer.{Answer}
use Rattle.iccma_tasks.specs.Tasks.{Asked}
use Rattle.certificate_claims.specs.declared.certificate.Certificate.{Certificate}
use Rattle.certificate_claims.specs.declared.certificate.Refutation.{Refutation}
use Rattle.certificate_claims.specs.Acceptance.{IsAccepted}
use Rattle.oracle_face.specs.Logs.{OracleLog, IsLog}
use Rattle.session_log.specs.Ends.{IsShownBy}
use Rattle.session_log.specs.Guards.{IsGuarded}
use Rattle.certificate_making.specs.Refuted.{AreAllReached}

abbrev pub certificate_of : List (List ℕ) → List Refutation → Certificate
certificate_of sets refutations = record { sets = sets; refutations = refutations }

-- a certificate with these sets is accepted for the answer, and no step of its refutations could be left out
pub record HasAccepted (f : Framework) (asked : Asked) (answer : Answer) (sets : List (List ℕ)) : Type 0 where
  pub refutations : List Refutation
  pub accepted : IsAccepted f asked answer (certificate_of sets refutations)
  pub reached : (one : Refutation) → Contains refutations one → AreAllReached one.steps

-- an answer that a guarded log shows has an accepted certificate
abbrev pub ShownIsAccepted : Type 0
ShownIsAccepted = (f : Framework) (asked : Asked) (answer : Answer) (sets : List (List ℕ)) (log : OracleLog)
    → IsLog f log → IsGuarded log → IsShownBy f asked answer sets log → HasAccepted f asked answer sets
