-- Right answers: what the semantics' definition gives for a query.
use Rattle.std.specs.Prelude.{◌≡◌, ℕ, ◌<◌, List, [], ◌∷◌, Contains, length, slice_index_or, Option, Some, None}
use Rattle.std.specs.declared.cmp.Ordering.TheVariants.{Less}
use Rattle.std.specs.Ordering.{nat_cmp}
use Rattle.std.specs.Cmp.Lexicographic.{slice_cmp}
use Rattle.iccma_tasks.specs.semantics.specs.Framework.{Af, IsComplete, IsGrounded, IsPreferred, IsStable, IsSemiStable, IsStage, IsIdeal}
use Rattle.iccma_tasks.specs.semantics.specs.Frameworks.{Framework, af, aba}
use Rattle.iccma_tasks.specs.semantics.specs.AbaFrameworks.{Aba, IsInTheory, collective_of}
use Rattle.iccma_tasks.specs.semantics.specs.Collectives as collective
use Rattle.iccma_tasks.specs.semantics.specs.Sets.{IsListed}
use Rattle.iccma_tasks.specs.declared.answer.Answer.{Answer}
use Rattle.iccma_tasks.specs.declared.answer.Answer.TheVariants.{Yes, No, Sets}
use Rattle.iccma_tasks.specs.declared.task.Problem.{Problem}
use Rattle.iccma_tasks.specs.declared.task.Problem.TheVariants.{Credulous, Sceptical, SomeExtension, AllExtensions}
use Rattle.iccma_tasks.specs.declared.task.Semantics.{Semantics}
use Rattle.iccma_tasks.specs.declared.task.Semantics.TheVariants.{Complete, Grounded, Preferred, Stable, SemiStable, Ideal, Stage}
use Rattle.iccma_tasks.specs.Tasks.{Asked}

-- the set is an extension of an abstract framework
abbrev pub IsExtensionOfAf : Af → Semantics → List ℕ → Type 0
IsExtensionOfAf f Complete s = IsComplete f s
IsExtensionOfAf f Grounded s = IsGrounded f s
IsExtensionOfAf f Preferred s = IsPreferred f s
IsExtensionOfAf f Stable s = IsStable f s
IsExtensionOfAf f SemiStable s = IsSemiStable f s
IsExtensionOfAf f Ideal s = IsIdeal f s
IsExtensionOfAf f Stage s = IsStage f s

-- the set is an extension of an assumption-based framework
abbrev pub IsExtensionOfAba : Aba → Semantics → List ℕ → Type 0
IsExtensionOfAba f Complete s = collective.IsComplete (collective_of f) s
IsExtensionOfAba f Grounded s = collective.IsGrounded (collective_of f) s
IsExtensionOfAba f Preferred s = collective.IsPreferred (collective_of f) s
IsExtensionOfAba f Stable s = collective.IsStable (collective_of f) s
IsExtensionOfAba f SemiStable s = collective.IsSemiStable (collective_of f) s
IsExtensionOfAba f Ideal s = collective.IsIdeal (collective_of f) s
IsExtensionOfAba f Stage s = collective.IsStage (collective_of f) s

-- the same of a framework of any kind
abbrev pub IsExtension : Framework → Semantics → List ℕ → Type 0
IsExtension (af f) semantics s = IsExtensionOfAf f semantics s
IsExtension (aba f) semantics s = IsExtensionOfAba f semantics s

-- the set accepts the query: it has the argument, or derives the atom
abbrev pub Accepts : Framework → List ℕ → ℕ → Type 0
Accepts (af f) s q = Contains s q
Accepts (aba f) s q = IsInTheory f s q

-- some extension accepts the query, and the answer's set is one; or none does
abbrev pub IsRightCredulous : Framework → Semantics → ℕ → Answer → Type 0
IsRightCredulous f semantics q (Yes (Some e)) = IsExtension f semantics e × Accepts f e q
IsRightCredulous f semantics q (No None) = (e : List ℕ) → IsExtension f semantics e → Accepts f e q → ⊥
IsRightCredulous f semantics q _ = ⊥

-- every extension accepts the query; or the answer's set is one that doesn't
abbrev pub IsRightSceptical : Framework → Semantics → ℕ → Answer → Type 0
IsRightSceptical f semantics q (Yes None) = (e : List ℕ) → IsExtension f semantics e → Accepts f e q
IsRightSceptical f semantics q (No (Some e)) = IsExtension f semantics e × (Accepts f e q → ⊥)
IsRightSceptical f semantics q _ = ⊥

-- the answer's set is an extension; or there is none
abbrev pub IsRightSome : Framework → Semantics → Answer → Type 0
IsRightSome f semantics (Sets (e ∷ [])) = IsExtension f semantics e
IsRightSome f semantics (No None) = (e : List ℕ) → IsExtension f semantics e → ⊥
IsRightSome f semantics _ = ⊥

-- the sets rise by the order of their lists
abbrev pub SetsRise : List (List ℕ) → Type 0
SetsRise sets = (i j : ℕ) → i < j → j < length sets
    → slice_cmp nat_cmp (slice_index_or sets i []) (slice_index_or sets j []) ≡ Less

-- the sets are all extensions, in order
pub record AreAll (f : Framework) (semantics : Semantics) (sets : List (List ℕ)) : Type 0 where
  pub each : (e : List ℕ) → Contains sets e → IsExtension f semantics e
  pub all : (e : List ℕ) → IsExtension f semantics e → IsListed sets e
  pub rise : SetsRise sets

-- the answer's sets are all extensions; or there is none
abbrev pub IsRightAll : Framework → Semantics → Answer → Type 0
IsRightAll f semantics (Sets (e ∷ more)) = AreAll f semantics (e ∷ more)
IsRightAll f semantics (No None) = (e : List ℕ) → IsExtension f semantics e → ⊥
IsRightAll f semantics _ = ⊥

abbrev pub IsRightOf : Framework → Problem → Semantics → Option ℕ → Answer → Type 0
IsRightOf f Credulous semantics (Some q) answer = IsRightCredulous f semantics q answer
IsRightOf f Sceptical semantics (Some q) answer = IsRightSceptical f semantics q answer
IsRightOf f SomeExtension semantics None answer = IsRightSome f semantics answer
IsRightOf f AllExtensions semantics None answer = IsRightAll f semantics answer
IsRightOf f _ semantics _ answer = ⊥

-- the answer is right for what is asked
abbrev pub IsRight : Framework → Asked → Answer → Type 0
IsRight f asked answer = IsRightOf f asked.task.problem asked.task.semantics asked.number answer
