-- Tests by the grounded set.
use Rattle.std.proofs.Common.{ℕ, Bool, true, false, List, refl}
use Rattle.std.specs.Prelude.{◌↔◌, IsTrue, Some}
use Rattle.std.proofs.lemmas.Bool.{false≢true}
use Rattle.semantics.specs.Framework.{Af, IsGrounded}
use Rattle.semantics.specs.Frameworks.{Framework, af, aba}
use Rattle.semantics.specs.Laws.{HasSameMembers}
use Rattle.semantics.proofs.SameMembers.{turned, complete_same}
use Rattle.semantics.specs.AbaFrameworks.{Aba, collective_of}
use Rattle.semantics.specs.Collectives.{IsGrounded as IsCollectiveGrounded}
use Rattle.aba_laws.proofs.AbaLemmas.{aba_lawful}
use Rattle.aba_laws.proofs.CollectiveSets.{complete_same as aba_complete_same}
use Rattle.iccma_tasks.specs.declared.task.Semantics.TheVariants.{Grounded}
use Rattle.certificate_claims.specs.Acceptance.{GroundedSays}
use Rattle.certificate_claims.specs.Rights.{Accepts, IsExtension}

tests_af_grounded : (f : Af) (s g : List ℕ) (r : Bool) → IsGrounded f g → (IsTrue r ↔ HasSameMembers s g)
    → IsTrue r ↔ IsGrounded f s
tests_af_grounded f s g r grounded test = (
  λ t. let same = test.0 t in record {
    complete = complete_same f g s (turned s g same) grounded.complete;
    least = λ u co x c. grounded.least u co x (same.there x c);
  },
  λ is. test.1 (record { there = is.least g grounded.complete; back = grounded.least s is.complete }),
)

tests_aba_grounded : (f : Aba) (s g : List ℕ) (r : Bool) → IsCollectiveGrounded (collective_of f) g
    → (IsTrue r ↔ HasSameMembers s g) → IsTrue r ↔ IsCollectiveGrounded (collective_of f) s
tests_aba_grounded f s g r grounded test = (
  λ t. let same = test.0 t in record {
    complete = aba_complete_same (collective_of f) (aba_lawful f) g s (turned s g same) grounded.complete;
    least = λ u co x c. grounded.least u co x (same.there x c);
  },
  λ is. test.1 (record { there = is.least g grounded.complete; back = grounded.least s is.complete }),
)

-- a set is the grounded set where it has the members of the grounded set
pub tests_grounded : (f : Framework) (s g : List ℕ) (r : Bool) → IsExtension f Grounded g
    → (IsTrue r ↔ HasSameMembers s g) → IsTrue r ↔ IsExtension f Grounded s
tests_grounded (af f) s g r grounded test = tests_af_grounded f s g r grounded test
tests_grounded (aba f) s g r grounded test = tests_aba_grounded f s g r grounded test

pub grounded_says : (f : Framework) (g : List ℕ) (q : ℕ) (accepts : Bool) → IsExtension f Grounded g
    → (IsTrue accepts ↔ Accepts f g q) → GroundedSays f accepts (Some q)
grounded_says f g q true is test = (g, is, test.0 refl)
grounded_says f g q false is test = (g, is, λ h. false≢true (test.1 h))
