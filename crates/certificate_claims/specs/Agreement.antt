-- When two answers to one query agree.
use Rattle.std.specs.Prelude.{◌≡◌, ℕ, List, Contains}
use Rattle.iccma_tasks.specs.semantics.specs.Frameworks.{Framework}
use Rattle.iccma_tasks.specs.semantics.specs.Sets.{IsListed}
use Rattle.iccma_tasks.specs.declared.answer.Answer.{Answer}
use Rattle.iccma_tasks.specs.declared.answer.Answer.TheVariants.{Yes, No, Sets}
use Rattle.iccma_tasks.specs.declared.task.Problem.{Problem}
use Rattle.iccma_tasks.specs.declared.task.Problem.TheVariants.{AllExtensions}
use Rattle.iccma_tasks.specs.declared.task.Semantics.{Semantics}
use Rattle.iccma_tasks.specs.declared.task.Semantics.TheVariants.{Grounded, Ideal}
use Rattle.iccma_tasks.specs.Tasks.{Asked}
use Rattle.iccma_tasks.specs.WrittenText.{HasRisingSets}
use Rattle.certificate_claims.specs.Claims.{sets_of}
use Rattle.certificate_claims.specs.Rights.{IsRight}

-- both say YES, both NO, or both only show sets
abbrev pub IsSameSide : Answer → Answer → Type 0
IsSameSide (Yes _) (Yes _) = Unit {0}
IsSameSide (No _) (No _) = Unit {0}
IsSameSide (Sets _) (Sets _) = Unit {0}
IsSameSide _ _ = ⊥

-- a framework has one such extension at most
abbrev pub HasOneAtMost : Semantics → Type 0
HasOneAtMost Grounded = Unit {0}
HasOneAtMost Ideal = Unit {0}
HasOneAtMost _ = ⊥

-- the query leaves no choice of the sets to show: it asks for all extensions, or there is one at most
abbrev pub FixesSets : Problem → Semantics → Type 0
FixesSets AllExtensions semantics = Unit {0}
FixesSets _ semantics = HasOneAtMost semantics

-- each set of the one list is in the other, by its members
pub record HaveSameSets (sets others : List (List ℕ)) : Type 0 where
  pub there : (e : List ℕ) → Contains sets e → IsListed others e
  pub back : (e : List ℕ) → Contains others e → IsListed sets e

pub record AgreeOn (problem : Problem) (semantics : Semantics) (a b : Answer) : Type 0 where
  pub side : IsSameSide a b
  pub sets : FixesSets problem semantics → HaveSameSets (sets_of a) (sets_of b)
  pub same : FixesSets problem semantics → HasRisingSets a → HasRisingSets b → a ≡ b

-- the answers say the same, YES or NO, and show the same sets where the query leaves no choice of them; then they are
-- equal if the numbers of each set rise, as those of `NumSet` do
abbrev pub Agree : Asked → Answer → Answer → Type 0
Agree asked a b = AgreeOn asked.task.problem asked.task.semantics a b

-- whatever other answer is right agrees with this one
abbrev pub AgreesWithRight : Framework → Asked → Answer → Type 0
AgreesWithRight f asked answer = (other : Answer) → IsRight f asked other → Agree asked other answer
