-- Steps beside the clauses before them, and literals beside goals and a number of side clauses.
use Rattle.std.specs.Prelude.{◌⊎◌, ℕ, ◌<◌, ◌≤◌, Bool, not, List, length, take, Contains, slice_index_or, Ok, Option, Some, None}
use Rattle.plain_lits.specs.HintCheck.{Checks}
use Rattle.semantics.specs.Frameworks.{Framework}
use Rattle.meaning_atoms.specs.declared.atom.AtomLit.{AtomLit}
use Rattle.meaning_atoms.specs.Literals.{negated}
use Rattle.af_axioms.specs.Facts.{IsFactValue}
use Rattle.certificate_claims.specs.declared.certificate.Step.{Step}
use Rattle.certificate_claims.specs.declared.certificate.Step.TheVariants.{Axiom, Side, Derived}
use Rattle.certificate_claims.specs.Refutations.{IsNotAsked, IsAxiomOf, StepHolds, step_clause, no_step}
use Rattle.answer_claims.specs.declared.claim.Claim.{Claim}
use Rattle.clause_bench.specs.Benches.{Takes}
use Rattle.answer_claims.specs.ClaimParts.{IsGoal}

-- a fact makes the literal false, or a goal of the claim does, or it denies a side clause
pub record IsClosedBy (f : Framework) (c : Claim) (l : AtomLit) : Type 0 where
  pub way : IsFactValue f l.atom (not l.positive)
      ⊎ (IsGoal f c (negated l) ⊎ IsNotAsked l.atom l.positive (length c.sides))

-- each literal of the clause is so
pub record AreClosed (f : Framework) (c : Claim) (clause : List AtomLit) : Type 0 where
  pub each : (l : AtomLit) → Contains clause l → IsClosedBy f c l

-- what the step names is there: an axiom, or one of so many side clauses
abbrev pub IsNamed : Framework → ℕ → Step → Type 0
IsNamed f count (Axiom name) = IsAxiomOf f name
IsNamed f count (Side n) = (1 ≤ n) × (n ≤ count)
IsNamed f count (Derived literals hints) = Unit {0}

-- the step stands behind steps with these clauses
abbrev pub StandsBehind : Framework → List (List AtomLit) → List (List AtomLit) → Step → Type 0
StandsBehind f sides clauses (Axiom name) = IsAxiomOf f name
StandsBehind f sides clauses (Side n) = (1 ≤ n) × (n ≤ length sides)
StandsBehind f sides clauses (Derived literals hints) = (used : ℕ) × Checks negated clauses literals hints (Ok used)

-- the step is taken behind steps with these clauses where it stands there, and its clause is added
abbrev pub TakesStep : Framework → List (List AtomLit) → List (List AtomLit) → Step → List (List AtomLit) → Bool
    → Type 0
TakesStep f sides before step after taken =
    Takes (StandsBehind f sides before step) before (step_clause sides step) after taken

-- the step at an index stands behind those before it
abbrev pub StandsAt : Framework → List (List AtomLit) → List Step → ℕ → Type 0
StandsAt f sides steps k = StepHolds f sides (take k steps) (slice_index_or steps k no_step)

-- P holds at each index below a bound, or this is the first at which it doesn't
abbrev pub IsFirstWithout : (ℕ → Type 0) → ℕ → Option ℕ → Type 0
IsFirstWithout P bound None = (k : ℕ) → k < bound → P k
IsFirstWithout P bound (Some k) = (k < bound) × (((j : ℕ) → j < k → P j) × (P k → ⊥))
