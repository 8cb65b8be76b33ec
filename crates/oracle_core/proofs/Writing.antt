-- An answer that is right can be written.
use Rattle.std.proofs.Common.{◌≡◌, ℕ, ◌<◌, List, [], ◌∷◌, length, ap, arith, Option, Some, None}
use Rattle.std.specs.Prelude.{Contains, All, slice_index_or}
use Rattle.std.proofs.lemmas.List.{get_or_default}
use Rattle.std.proofs.lemmas.List.Elements.{All-nil, All-cons}
use Rattle.semantics.specs.Frameworks.{Framework, IsNumbered}
use Rattle.iccma_tasks.specs.declared.answer.Answer.{Answer}
use Rattle.iccma_tasks.specs.declared.answer.Answer.TheVariants.{Yes, No, Sets}
use Rattle.iccma_tasks.specs.declared.task.Problem.{Problem}
use Rattle.iccma_tasks.specs.declared.task.Problem.TheVariants.{Credulous, Sceptical, SomeExtension, AllExtensions}
use Rattle.iccma_tasks.specs.declared.task.Semantics.{Semantics}
use Rattle.iccma_tasks.specs.Tasks.{Asked}
use Rattle.iccma_tasks.specs.WrittenText.{HasArguments, IsWritable as IsWritableAnswer}
use Rattle.certificate_claims.specs.declared.certificate.Certificate.{Certificate}
use Rattle.certificate_claims.specs.Acceptance.{IsAccepted}
use Rattle.certificate_claims.specs.Rights.{IsExtension, IsRightOf}
use Rattle.certificate_text.specs.Written.{IsWritable}
use Rattle.certificate_claims.proofs.ExtensionFacts.{extension_members}
use Rattle.certificate_claims.proofs.KindFacts.{admissible_members, numbered_members}
use Rattle.certificate_claims.proofs.Agreeing.{agrees_with_right}
use Rattle.certificate_claims.proofs.Right.{accepted_right}
use Rattle.oracle_face.specs.Logs.{OracleLog}
use Rattle.session_log.specs.Ends.{IsShownBy as IsShownByLog}
use Rattle.query_answers.specs.declared.evidence.Evidence.{Evidence}
use Rattle.query_answers.specs.Answers.{IsEvidence}
use Rattle.oracle_core.specs.Answers.{IsShownBy}

stands : {X : Type 0} (xs : List X) (k : ℕ) (d : X) → k < length xs → Contains xs (slice_index_or xs k d)
stands xs k d lt = (k, lt, get_or_default xs k (slice_index_or xs k d) d lt)

module _ (f : Framework) (numbered : IsNumbered f) (semantics : Semantics) where
  -- extensions are of the framework's numbers
  arguments : (e : List ℕ) → IsExtension f semantics e → HasArguments e
  arguments e h = λ k d lt. numbered_members f numbered (slice_index_or e k d)
      (extension_members f semantics e numbered h (slice_index_or e k d) (stands e k d lt))

  all_arguments : (sets : List (List ℕ)) → ((e : List ℕ) → Contains sets e → IsExtension f semantics e)
      → All HasArguments sets
  all_arguments sets each =
      λ k d lt. arguments (slice_index_or sets k d) (each (slice_index_or sets k d) (stands sets k d lt))

  written : (problem : Problem) (number : Option ℕ) (answer : Answer)
      → IsRightOf f problem semantics number answer → IsWritableAnswer answer
  written Credulous (Some q) (Yes (Some e)) h = arguments e h.0
  written Credulous (Some q) (Yes None) h = tt
  written Credulous (Some q) (No None) h = tt
  written Credulous (Some q) (No (Some e)) h = absurd h
  written Credulous (Some q) (Sets sets) h = absurd h
  written Credulous None answer h = absurd h
  written Sceptical (Some q) (Yes None) h = tt
  written Sceptical (Some q) (Yes (Some e)) h = absurd h
  written Sceptical (Some q) (No (Some e)) h = arguments e h.0
  written Sceptical (Some q) (No None) h = tt
  written Sceptical (Some q) (Sets sets) h = absurd h
  written Sceptical None answer h = absurd h
  written SomeExtension (Some q) answer h = absurd h
  written SomeExtension None (Sets []) h = absurd h
  written SomeExtension None (Sets (e ∷ [])) h =
      (omega arith, All-cons HasArguments e [] (arguments e h) (All-nil HasArguments))
  written SomeExtension None (Sets (e ∷ other ∷ more)) h = absurd h
  written SomeExtension None (Yes None) h = tt
  written SomeExtension None (Yes (Some e)) h = absurd h
  written SomeExtension None (No None) h = tt
  written SomeExtension None (No (Some e)) h = absurd h
  written AllExtensions (Some q) answer h = absurd h
  written AllExtensions None (Sets []) h = absurd h
  written AllExtensions None (Sets (e ∷ more)) h = (omega arith, all_arguments (e ∷ more) h.each)
  written AllExtensions None (Yes None) h = tt
  written AllExtensions None (Yes (Some e)) h = absurd h
  written AllExtensions None (No None) h = tt
  written AllExtensions None (No (Some e)) h = absurd h

-- an answer with an accepted certificate that a text can hold is shown by it
pub shown_by : (f : Framework) (asked : Asked) (answer : Answer) (certificate : Certificate) → IsNumbered f
    → IsAccepted f asked answer certificate → IsWritable certificate → IsShownBy f asked answer certificate
shown_by f asked answer certificate numbered accepted writable =
    let right = accepted_right f asked answer certificate numbered accepted in
    record {
      right = right;
      agrees = agrees_with_right f asked answer right;
      accepted = accepted;
      writable_answer = written f numbered asked.task.semantics asked.task.problem asked.number answer right;
      writable = writable;
    }

-- steps that refute the claims show the answer by the log
pub evidence_by_log : (f : Framework) (asked : Asked) (log : OracleLog) (evidence : Evidence)
    → IsEvidence f asked log evidence → IsShownByLog f asked evidence.answer evidence.sets log
evidence_by_log f asked log evidence is = record {
  tests = is.tests;
  refuted = λ k lt. record {
    number = slice_index_or evidence.steps k 0;
    refutes = is.refuted.each k (omega (arith, is.refuted.number));
  };
}

-- an answer whose row has no claim is shown by any log
pub empty_by_log : (f : Framework) (asked : Asked) (answer : Answer) (certificate : Certificate)
    → IsShownBy f asked answer certificate → certificate.refutations ≡ [] → (log : OracleLog)
    → IsShownByLog f asked answer certificate.sets log
empty_by_log f asked answer certificate shown none log = record {
  tests = shown.accepted.tests;
  refuted = λ k lt. absurd (omega (arith, shown.accepted.number, ap length none));
}
