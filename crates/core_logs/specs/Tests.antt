-- What the tests tell, where it has no word yet.
use Rattle.std.specs.Prelude.{◌≡◌, ◌≢◌, ◌⊎◌, ℕ, true, false, List, Contains, Option, Some, None, Ok, ◌<◌, length}
use Rattle.std.specs.Prelude.{slice_index_or}
use Rattle.plain_lits.specs.HintCheck.{Checks, IsFalsified, IsUnit, IsFalseHint, IsUnitHint, IsOtherHint, Propagates}
use Rattle.semantics.specs.Arguments.{IsArgument}
use Rattle.meaning_atoms.specs.declared.atom.AtomLit.{AtomLit}
use Rattle.meaning_atoms.specs.declared.axiom.AxiomName.{AxiomName}
use Rattle.meaning_atoms.specs.AxiomNames.{IsAxiomName}
use Rattle.meaning_atoms.specs.Literals.{negated}
use Rattle.meaning_atoms.specs.Worlds.{IsAsk}
use Rattle.certificate_claims.specs.Refutations.{axiom_clause}
use Rattle.oracle_face.specs.Goals.{IsHitAtom, IsMemberAtom, Tells}
use Rattle.oracle_face.specs.declared.entry.EntryName.{EntryName}
use Rattle.oracle_face.specs.Logs.{IsNumberOf, IsSameClause, LogStep, SideClause, by_axiom, side_at, step_at, no_step}
use Rattle.session_log.specs.Steps.{StandsInHint}
use Rattle.core_logs.specs.declared.checking.Status.{Status}
use Rattle.core_logs.specs.declared.checking.Status.TheVariants.{Falsified, Unit as Single, Other}

-- ---- literals of a clause

-- the literal speaks of no side clause
pub record AsksNone (l : AtomLit) : Type 0 where
  pub none : IsAsk l.atom → ⊥

-- the literal is an atom itself
pub record IsAffirmed (l : AtomLit) : Type 0 where
  pub is : l.positive ≡ true

-- the literal is about membership
pub record IsOfMember (l : AtomLit) : Type 0 where
  pub is : IsMemberAtom l.atom

-- the literal says that a contrary is derived, or doesn't
pub record IsHit (l : AtomLit) : Type 0 where
  pub is : IsHitAtom l.atom

pub record IsNoHit (l : AtomLit) : Type 0 where
  pub none : IsHitAtom l.atom → ⊥

-- each literal says what a side clause may say of an argument
abbrev pub TellAll : List AtomLit → Type 0
TellAll clause = (l : AtomLit) → Contains clause l → Tells IsArgument l.atom l.positive

-- ---- the check of hints

-- the literal is this one, or it is false
pub record IsFalseOr (truths : List AtomLit) (unset l : AtomLit) : Type 0 where
  pub either : l ≢ unset → Contains truths (negated l)

-- the clause is neither false nor unit
pub record IsOther (truths clause : List AtomLit) : Type 0 where
  pub not_false : IsFalsified negated truths clause → ⊥
  pub not_unit : (unset : AtomLit) → IsUnit negated truths clause unset → ⊥

-- a clause, under the literals that are true
abbrev pub IsStatusOf : List AtomLit → List AtomLit → Status → Type 0
IsStatusOf truths clause Falsified = IsFalsified negated truths clause
IsStatusOf truths clause (Single unset) = IsUnit negated truths clause unset
IsStatusOf truths clause Other = IsOther truths clause

-- a hint, under the literals that are true
abbrev pub HintMeans : List (List AtomLit) → List AtomLit → ℕ → Status → Type 0
HintMeans clauses truths hint Falsified = IsFalseHint negated clauses truths hint
HintMeans clauses truths hint (Single unset) = IsUnitHint negated clauses truths hint unset
HintMeans clauses truths hint Other = IsOtherHint negated clauses truths hint

-- from literals that are true, the hints in turn come to a false clause at this place, or at none
abbrev pub EndsAt : List (List AtomLit) → List AtomLit → List ℕ → Option ℕ → Type 0
EndsAt clauses truths hints (Some place) = Propagates negated clauses truths 1 hints (Ok place)
EndsAt clauses truths hints None = (place : ℕ) → Propagates negated clauses truths 1 hints (Ok place) → ⊥

-- the check takes the clause by so many of the hints, or doesn't
abbrev pub IsTakenAt : List (List AtomLit) → List AtomLit → List ℕ → Option ℕ → Type 0
IsTakenAt clauses clause hints (Some used) = Checks negated clauses clause hints (Ok used)
IsTakenAt clauses clause hints None = (used : ℕ) → Checks negated clauses clause hints (Ok used) → ⊥

-- the step's clause has no literal beyond those of the clause
pub record IsPartOf (step : LogStep) (clause : List AtomLit) : Type 0 where
  pub inside : (l : AtomLit) → Contains step.clause l → Contains clause l

-- the same of a step that searches use
pub record IsWorkingPart (step : LogStep) (clause : List AtomLit) : Type 0 where
  pub works : step.closing ≡ false
  pub inside : (l : AtomLit) → Contains step.clause l → Contains clause l

-- ---- hints of which each is needed

-- the literal is in the clause, or its negation in a hint's
abbrev pub IsMet : List LogStep → List AtomLit → List ℕ → AtomLit → Type 0
IsMet steps clause hints l = Contains clause l ⊎ StandsInHint steps hints (negated l)

-- all literals of the hint's clause are so
pub record IsUsed (steps : List LogStep) (clause : List AtomLit) (hints : List ℕ) (hint : ℕ) : Type 0 where
  pub met : (l : AtomLit) → Contains (step_at steps hint).clause l → IsMet steps clause hints l

-- the hint's step didn't only end a search
pub record IsKeptHint (steps : List LogStep) (hint : ℕ) : Type 0 where
  pub kept : (step_at steps hint).closing ≡ false

-- ---- where steps come from

-- the arguments of each axiom's name fit its row
pub record AreNamed (steps : List LogStep) : Type 0 where
  pub each : (k : ℕ) (name : AxiomName) → k < length steps
      → (slice_index_or steps k no_step).source ≡ by_axiom name → IsAxiomName name

-- the step is the axiom's
pub record IsOfAxiom (step : LogStep) (name : AxiomName) : Type 0 where
  pub is : step.source ≡ by_axiom name

-- some step is
pub record HasAxiom (steps : List LogStep) (name : AxiomName) : Type 0 where
  pub number : ℕ
  pub named : IsNumberOf steps number
  pub is : (step_at steps number).source ≡ by_axiom name

-- the step was taken from the entry
pub record IsFromEntry (step : LogStep) (name : EntryName) : Type 0 where
  pub is : step.imported ≡ Some name

-- some step was
pub record HasEntry (steps : List LogStep) (name : EntryName) : Type 0 where
  pub number : ℕ
  pub named : IsNumberOf steps number
  pub is : (step_at steps number).imported ≡ Some name

-- the name is that of an axiom, whose literals the clause has
pub record IsClauseOf (name : AxiomName) (clause : List AtomLit) : Type 0 where
  pub is_name : IsAxiomName name
  pub same : IsSameClause clause (axiom_clause name)

-- the side clause has these literals
pub record IsSideLike (side : SideClause) (literals : List AtomLit) : Type 0 where
  pub same : IsSameClause side.literals literals

-- some side clause does
pub record HasSideLike (sides : List SideClause) (literals : List AtomLit) : Type 0 where
  pub number : ℕ
  pub named : IsNumberOf sides number
  pub same : IsSameClause (side_at sides number).literals literals
