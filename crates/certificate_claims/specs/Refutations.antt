-- Claims, and the refutations that show them.
--
-- A claim has goals, which are literals, and side clauses; it says that no set of the framework makes all of them
-- true. A refutation of it is a list of clauses, each an axiom, a side clause or derived by hints from earlier ones,
-- whose last one has only literals that the facts, the goals and the side clauses make false.
use Rattle.std.specs.Prelude.{◌⊎◌, ℕ, ◌-◌, ◌<◌, ◌≤◌, Bool, false, not, List, [], ◌∷◌, length, map, take, Contains, slice_index_or, Ok}
use Rattle.plain_lits.specs.HintCheck.{Checks}
use Rattle.iccma_tasks.specs.semantics.specs.Frameworks.{Framework, af, aba}
use Rattle.aba_axioms.specs.meaning_atoms.specs.declared.atom.Atom.{Atom}
use Rattle.aba_axioms.specs.meaning_atoms.specs.declared.atom.Atom.TheVariants.{Ask}
use Rattle.aba_axioms.specs.meaning_atoms.specs.declared.atom.AtomLit.{AtomLit}
use Rattle.aba_axioms.specs.meaning_atoms.specs.declared.axiom.AxiomName.{AxiomName}
use Rattle.aba_axioms.specs.meaning_atoms.specs.declared.axiom.AxiomName.TheVariants.{Af as OfAf, Aba as OfAba}
use Rattle.aba_axioms.specs.meaning_atoms.specs.AbaAxioms.{IsAbaAxiom}
use Rattle.aba_axioms.specs.meaning_atoms.specs.Axioms.{IsAfAxiom}
use Rattle.aba_axioms.specs.meaning_atoms.specs.Literals.{denied, negated, AsksNothing}
use Rattle.aba_axioms.specs.meaning_atoms.specs.Worlds.{world_of, IsWorldOf, HoldsOf, Says, IsTrueAlone}
use Rattle.af_axioms.specs.Facts.{IsFactValue}
use Rattle.af_axioms.specs.Table.{table_clause}
use Rattle.aba_axioms.specs.AbaTable.{aba_clause}
use Rattle.certificate_claims.specs.declared.certificate.Step.{Step}
use Rattle.certificate_claims.specs.declared.certificate.Step.TheVariants.{Axiom, Side, Derived}

-- literals and side clauses that no set of the framework makes true together
pub record Claim : Type 0 where
  pub goals : List AtomLit
  pub sides : List (List AtomLit)

-- no goal and no side clause speaks of a side clause
pub record IsPlain (claim : Claim) : Type 0 where
  pub goals : AsksNothing claim.goals
  pub sides : (side : List AtomLit) → Contains claim.sides side → AsksNothing side

-- ---- clauses of steps

-- the clause of an axiom of either kind
abbrev pub axiom_clause : AxiomName → List AtomLit
axiom_clause (OfAf name) = table_clause name
axiom_clause (OfAba name) = aba_clause name

-- an axiom of the framework's kind, with arguments that fit its row
abbrev pub IsAxiomOf : Framework → AxiomName → Type 0
IsAxiomOf (af f) (OfAf name) = IsAfAxiom name
IsAxiomOf (af f) (OfAba name) = ⊥
IsAxiomOf (aba f) (OfAf name) = ⊥
IsAxiomOf (aba f) (OfAba name) = IsAbaAxiom name

abbrev pub step_clause : List (List AtomLit) → Step → List AtomLit
step_clause sides (Axiom name) = axiom_clause name
step_clause sides (Side n) = denied (Ask n) ∷ slice_index_or sides (n - 1) []
step_clause sides (Derived literals hints) = literals

abbrev pub step_clauses : List (List AtomLit) → List Step → List (List AtomLit)
step_clauses sides steps = map (step_clause sides) steps

-- a step that stands nowhere
abbrev pub no_step : Step
no_step = Side 0

-- the step stands behind these: an axiom, a side clause that is there, or a clause that the hint check takes
abbrev pub StepHolds : Framework → List (List AtomLit) → List Step → Step → Type 0
StepHolds f sides before (Axiom name) = IsAxiomOf f name
StepHolds f sides before (Side n) = (1 ≤ n) × (n ≤ length sides)
StepHolds f sides before (Derived literals hints) =
    (used : ℕ) × Checks negated (step_clauses sides before) literals hints (Ok used)

-- ---- refutations

-- the literal says that a side clause is not true, one of so many
abbrev pub IsNotAsked : Atom → Bool → ℕ → Type 0
IsNotAsked (Ask n) false count = (1 ≤ n) × (n ≤ count)
IsNotAsked _ _ count = ⊥

-- the literal is false by a fact of the framework, by a goal, or as the denial of a side clause
abbrev pub IsClosed : Framework → Claim → AtomLit → Type 0
IsClosed f claim l =
    IsFactValue f l.atom (not l.positive)
    ⊎ (Contains claim.goals (negated l) ⊎ IsNotAsked l.atom l.positive (length claim.sides))

-- there is a step, each step stands behind those before it, and each literal of the last clause is closed
pub record IsRefutationOf (f : Framework) (claim : Claim) (steps : List Step) : Type 0 where
  pub some_step : 0 < length steps
  pub each : (k : ℕ) → k < length steps → StepHolds f claim.sides (take k steps) (slice_index_or steps k no_step)
  pub closed : (l : AtomLit) → Contains (step_clause claim.sides (slice_index_or steps (length steps - 1) no_step)) l
      → IsClosed f claim l

-- ---- what refutations show

-- each goal is true of the set
abbrev pub MeetsGoals : Framework → List ℕ → List AtomLit → Type 0
MeetsGoals f s goals = (goal : AtomLit) → Contains goals goal → Says goal.positive (HoldsOf f s goal.atom)

-- each side clause is true of the set
abbrev pub MeetsSides : Framework → List ℕ → List (List AtomLit) → Type 0
MeetsSides f s sides = (side : List AtomLit) → Contains sides side → IsTrueAlone (world_of f s) side

-- no set of the framework makes the goals and the side clauses true
abbrev pub IsExcluded : Framework → Claim → Type 0
IsExcluded f claim = (s : List ℕ) → IsWorldOf f s → MeetsGoals f s claim.goals → MeetsSides f s claim.sides → ⊥
