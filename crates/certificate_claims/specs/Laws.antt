-- The laws of certificates.
use Rattle.std.specs.Prelude.{◌≡◌, ◌↔◌, ℕ, ◌<◌, true, List, length, slice_index_or}
use Rattle.iccma_tasks.specs.semantics.specs.Frameworks.{Framework, IsNumbered}
use Rattle.aba_axioms.specs.aba_laws.specs.AfNotions.{collective_for}
use Rattle.iccma_tasks.specs.declared.answer.Answer.{Answer}
use Rattle.iccma_tasks.specs.Tasks.{Asked}
use Rattle.certificate_claims.specs.declared.certificate.Certificate.{Certificate}
use Rattle.certificate_claims.specs.declared.certificate.Step.{Step}
use Rattle.certificate_claims.specs.declared.verdict.Verdict.{Verdict}
use Rattle.certificate_claims.specs.declared.verdict.Verdict.TheVariants.{Accepted}
use Rattle.certificate_claims.specs.Acceptance.{Tests, IsAccepted, no_claim}
use Rattle.certificate_claims.specs.Claims.{claims, row_of, sets_of}
use Rattle.certificate_claims.specs.Refutations.{Claim, IsPlain, IsRefutationOf, IsExcluded}
use Rattle.certificate_claims.specs.Rights.{IsRight}
use Rattle.certificate_claims.specs.SetLiterals.{hits}
use Rattle.certificate_claims.specs.Verdicts.{IsVerdict}
use Rattle.certificate_claims.specs.Agreement.{Agree}

-- the test tells what a set attacks
abbrev pub HitsAreAttacks : Type 0
HitsAreAttacks = (f : Framework) (s : List ℕ) (a : ℕ) → (hits f s a ≡ true) ↔ (collective_for f).attacks s a

-- a claim with a refutation is met by no set of the framework
abbrev pub RefutationsExclude : Type 0
RefutationsExclude = (f : Framework) (claim : Claim) (steps : List Step) → IsPlain claim → IsRefutationOf f claim steps
    → IsExcluded f claim

-- no set of the framework meets one of the claims
abbrev pub AreExcluded : Framework → List Claim → Type 0
AreExcluded f list = (k : ℕ) → k < length list → IsPlain (slice_index_or list k no_claim)
    → IsExcluded f (slice_index_or list k no_claim)

-- an answer whose direct tests pass, and whose claims no set meets, is right
abbrev pub ShownIsRight : Type 0
ShownIsRight = (f : Framework) (asked : Asked) (answer : Answer) (sets : List (List ℕ)) → IsNumbered f
    → Tests f asked (row_of f asked answer) (sets_of answer) sets
    → AreExcluded f (claims f (row_of f asked answer) sets)
    → IsRight f asked answer

-- an answer with an accepted certificate is right
abbrev pub AcceptedIsRight : Type 0
AcceptedIsRight = (f : Framework) (asked : Asked) (answer : Answer) (certificate : Certificate) → IsNumbered f
    → IsAccepted f asked answer certificate → IsRight f asked answer

-- two right answers to one query on one framework agree
abbrev pub RightAnswersAgree : Type 0
RightAnswersAgree = (f : Framework) (asked : Asked) (a b : Answer) → IsRight f asked a → IsRight f asked b
    → Agree asked a b

-- there is one verdict at most
abbrev pub OneVerdict : Type 0
OneVerdict = (f : Framework) (asked : Asked) (answer : Answer) (certificate : Certificate) (a b : Verdict)
    → IsVerdict f asked answer certificate a → IsVerdict f asked answer certificate b → a ≡ b

-- the verdict is Accepted exactly where the certificate is accepted
abbrev pub AcceptedIsVerdict : Type 0
AcceptedIsVerdict = (f : Framework) (asked : Asked) (answer : Answer) (certificate : Certificate)
    → IsVerdict f asked answer certificate Accepted ↔ IsAccepted f asked answer certificate
