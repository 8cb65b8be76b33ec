-- The claims of an accepted certificate, and its refutations.
use Rattle.std.proofs.Common.{◌≡◌, ℕ, ◌<◌, List, length, get_or, take, sym, ap, subst, ◌∙◌, arith}
use Rattle.std.proofs.lemmas.List.{get_or_default}
use Rattle.semantics.specs.Frameworks.{Framework}
use Rattle.iccma_tasks.specs.declared.answer.Answer.{Answer}
use Rattle.iccma_tasks.specs.Tasks.{Asked}
use Rattle.certificate_claims.specs.declared.certificate.Certificate.{Certificate}
use Rattle.certificate_claims.specs.declared.certificate.Step.{Step}
use Rattle.certificate_claims.specs.declared.row.Row.{Row}
use Rattle.certificate_claims.specs.Acceptance.{IsAccepted, no_claim as no_table_claim, no_refutation}
use Rattle.certificate_claims.specs.Claims.{claims, row_of, sets_of}
use Rattle.certificate_claims.specs.Refutations.{StepHolds, no_step}
use Rattle.certificate_claims.specs.Verdicts.{IsVerdict, claim_at, steps_at}
use Rattle.certificate_claims.specs.declared.verdict.Verdict.TheVariants.{Accepted}
use Rattle.certificate_claims.proofs.Verdicts.{accepted_is_verdict}
use Rattle.answer_claims.specs.declared.claim.Claim.{Claim}
use Rattle.answer_claims.specs.ClaimParts.{AreClaims}
use Rattle.answer_claims.specs.SetFacts.{HasSetsOf}
use Rattle.answer_claims.specs.SideClauses.{sides_of}
use Rattle.answer_claims.proofs.ClaimLemmas.{claim_at_index, same_length}
use Rattle.certificate_check.proofs.RowLemmas.{answer_known, answer_of_kind, tested_sets}
use Rattle.certificate_claims.specs.declared.certificate.Refutation.{Refutation}
use Rattle.meaning_atoms.specs.declared.atom.AtomLit.{AtomLit}
use Rattle.certificate_check.specs.Flaws.{no_claim}
use Rattle.refutation_logs.specs.declared.texts.Exported.{Exported}
use Rattle.refutation_logs.specs.Exports.{IsExportOf, sides_in, steps_in}
use Rattle.refutation_logs.specs.Logged.{AllHold}

pub accepted : (f : Framework) (asked : Asked) (answer : Answer) (certificate : Certificate)
    → IsVerdict f asked answer certificate Accepted → IsAccepted f asked answer certificate
accepted f asked answer certificate h = (accepted_is_verdict f asked answer certificate).0 h

-- the sets whose ranges the claims ask for have live arguments alone
pub accepted_sets : (f : Framework) (asked : Asked) (answer : Answer) (certificate : Certificate)
    → IsAccepted f asked answer certificate → HasSetsOf f (row_of f asked answer)
accepted_sets f asked answer certificate h =
    tested_sets f asked (row_of f asked answer) (sets_of answer) (answer_known f asked answer).1
    (answer_of_kind f asked answer) h.tests.witnesses

-- the claims, as they are made of the row and the sets
pub accepted_claims : (f : Framework) (asked : Asked) (answer : Answer) (certificate : Certificate) (row : Row)
    (sets : List (List ℕ)) (cs : List Claim) → row ≡ row_of f asked answer → sets ≡ certificate.sets
    → AreClaims f cs (claims f row sets) → AreClaims f cs (claims f (row_of f asked answer) certificate.sets)
accepted_claims f asked answer certificate row sets cs e same h =
    subst (λ x. AreClaims f cs (claims f (row_of f asked answer) x)) same
    (subst (λ x. AreClaims f cs (claims f x sets)) e h)

-- there is a refutation for each claim
pub as_many : (f : Framework) (asked : Asked) (answer : Answer) (certificate : Certificate) (cs : List Claim)
    → IsAccepted f asked answer certificate → AreClaims f cs (claims f (row_of f asked answer) certificate.sets)
    → length certificate.refutations ≡ length cs
as_many f asked answer certificate cs h all =
    h.number ∙ sym (same_length f cs (claims f (row_of f asked answer) certificate.sets) all)

-- the side clauses of the claim at an index
pub sides_are : (f : Framework) (asked : Asked) (answer : Answer) (certificate : Certificate) (cs : List Claim) (k : ℕ)
    → IsAccepted f asked answer certificate → AreClaims f cs (claims f (row_of f asked answer) certificate.sets)
    → k < length certificate.refutations
    → (claim_at f (row_of f asked answer) certificate k).sides ≡ sides_in f cs k
sides_are f asked answer certificate cs k h all lt =
    let many = as_many f asked answer certificate cs h all in
    (claim_at_index f cs (claims f (row_of f asked answer) certificate.sets) k no_claim no_table_claim all
    (omega (arith, many, lt))).sides

-- the steps of the refutation at an index stand beside these, and there is one
pub steps_hold : (f : Framework) (asked : Asked) (answer : Answer) (certificate : Certificate) (cs : List Claim) (k : ℕ)
    → IsAccepted f asked answer certificate → AreClaims f cs (claims f (row_of f asked answer) certificate.sets)
    → k < length certificate.refutations → AllHold f (sides_in f cs k) (steps_at certificate k)
steps_hold f asked answer certificate cs k h all lt = record {
  each = λ j below.
      subst (λ sides. StepHolds f sides (take j (steps_at certificate k)) (get_or (steps_at certificate k) j no_step))
      (sides_are f asked answer certificate cs k h all lt) ((h.refutations k lt).each j below);
}

pub some_step : (f : Framework) (asked : Asked) (answer : Answer) (certificate : Certificate) (k : ℕ)
    → IsAccepted f asked answer certificate → k < length certificate.refutations → 0 < length (steps_at certificate k)
some_step f asked answer certificate k h lt = (h.refutations k lt).some_step

-- the claim and the refutation at an index, as they are read
pub sides_read : (f : Framework) (cs : List Claim) (k : ℕ) (c : Claim) (sides : List (List ℕ)) → k < length cs
    → c ≡ get_or cs k c → sides ≡ c.sides → sides_of f c.kind sides ≡ sides_in f cs k
sides_read f cs k c sides lt e same =
    ap (sides_of f c.kind) same
    ∙ ap (λ (x : Claim). sides_of f x.kind x.sides) (e ∙ get_or_default cs k c no_claim lt)

pub steps_read : (rs : List Refutation) (k : ℕ) (r : Refutation) (steps : List Step) → k < length rs
    → steps ≡ (get_or rs k r).steps → steps ≡ steps_in rs k
steps_read rs k r steps lt same =
    same ∙ ap (λ (x : Refutation). x.steps) (get_or_default rs k r no_refutation lt)

pub hold_moved : (f : Framework) (sides sides' : List (List AtomLit)) (steps steps' : List Step) → sides ≡ sides'
    → steps ≡ steps' → AllHold f sides' steps' → AllHold f sides steps
hold_moved f sides sides' steps steps' e e' h =
    subst (λ x. AllHold f x steps) (sym e) (subst (λ x. AllHold f sides' x) (sym e') h)

pub export_moved : (sides sides' : List (List AtomLit)) (steps steps' : List Step) (x : Exported) → sides ≡ sides'
    → steps ≡ steps' → IsExportOf sides steps x → IsExportOf sides' steps' x
export_moved sides sides' steps steps' x e e' h =
    subst (λ s. IsExportOf s steps' x) e (subst (λ s. IsExportOf sides s x) e' h)
