-- What an answer is shown by, and the answers that the grounded set gives.
use Rattle.std.specs.Prelude.{◌≡◌, ℕ, Bool, List, [], ◌∷◌, Option, Some, None, if◌then◌else◌}
use Rattle.semantics.specs.Frameworks.{Framework}
use Rattle.iccma_tasks.specs.declared.answer.Answer.{Answer}
use Rattle.iccma_tasks.specs.declared.answer.Answer.TheVariants.{Yes, No, Sets}
use Rattle.iccma_tasks.specs.declared.task.Problem.{Problem}
use Rattle.iccma_tasks.specs.declared.task.Problem.TheVariants.{Sceptical}
use Rattle.iccma_tasks.specs.Tasks.{Asked}
use Rattle.iccma_tasks.specs.WrittenText.{IsWritable as IsWritableAnswer}
use Rattle.certificate_claims.specs.declared.certificate.Certificate.{Certificate}
use Rattle.certificate_claims.specs.Acceptance.{IsAccepted}
use Rattle.certificate_claims.specs.Agreement.{AgreesWithRight}
use Rattle.certificate_claims.specs.Rights.{IsRight}
use Rattle.certificate_text.specs.Written.{IsWritable}
use Rattle.query_answers.specs.Answers.{IsSaid}

-- the answer is right, whatever other answer is right agrees with it, the certificate is accepted for it, and both can
-- be written as texts
pub record IsShownBy (f : Framework) (asked : Asked) (answer : Answer) (certificate : Certificate) : Type 0 where
  pub right : IsRight f asked answer
  pub agrees : AgreesWithRight f asked answer
  pub accepted : IsAccepted f asked answer certificate
  pub writable_answer : IsWritableAnswer answer
  pub writable : IsWritable certificate

-- ---- the grounded set

-- the answer that the grounded set gives, which accepts the query or doesn't
abbrev pub answer_by : Problem → Option ℕ → Bool → List ℕ → Answer
answer_by Sceptical (Some q) accepts g = if accepts then Yes None else No (Some g)
answer_by problem (Some q) accepts g = if accepts then Yes (Some g) else No None
answer_by problem None accepts g = Sets (g ∷ [])

-- the same, where the set of this framework says whether it accepts the query
pub record IsAnswerBy (f : Framework) (problem : Problem) (number : Option ℕ) (g : List ℕ) (answer : Answer)
    : Type 0 where
  pub accepts : Bool
  pub said : IsSaid f number g accepts
  pub same : answer ≡ answer_by problem number accepts g

-- the certificate without sets and refutations
abbrev pub no_certificate : Certificate
no_certificate = record { sets = []; refutations = [] }
