-- Logs whose variables stand for atoms.
use Rattle.std.specs.Prelude.{◌≡◌, ◌↔◌, ◌⊎◌, ℕ, ◌≤◌, ◌-◌, List, [], length, map, Contains, slice_index_or}
use Rattle.plain_lits.specs.declared.lit.Lit.{Lit}
use Rattle.hinted_log.specs.declared.step_kind.StepKind.{StepKind}
use Rattle.hinted_log.specs.declared.step_kind.StepKind.TheVariants.{Axiom, Side, Derived}
use Rattle.hinted_log.specs.Logs.{Step, IsProof, IsStepOf, step_at}
use Rattle.meaning_atoms.specs.declared.atom.Atom.{Atom}
use Rattle.meaning_atoms.specs.declared.atom.Atom.TheVariants.{Ask}
use Rattle.meaning_atoms.specs.declared.atom.AtomLit.{AtomLit}
use Rattle.meaning_atoms.specs.Literals.{denied, AsksNothing}
use Rattle.meaning_atoms.specs.Worlds.{World, IsWorld, IsTrueBeside, IsValid}

-- the literal that a literal of a log stands for
abbrev pub lit_of : (ℕ → Atom) → Lit → AtomLit
lit_of atom_of l = record { atom = atom_of l.var; positive = l.positive }

-- the clause that a clause of a log stands for
abbrev pub atoms_of : (ℕ → Atom) → List Lit → List AtomLit
atoms_of atom_of clause = map (lit_of atom_of) clause

-- the clause that a step stands for
abbrev pub step_clause : (ℕ → Atom) → Step → List AtomLit
step_clause atom_of step = atoms_of atom_of step.clause

-- the clause has just the literals of the n-th side clause, and that this side clause is not true
pub record IsSideStep (sides : List (List AtomLit)) (clause : List AtomLit) : Type 0 where
  pub number : ℕ
  pub low : 1 ≤ number
  pub high : number ≤ length sides
  pub literals : (l : AtomLit) → Contains clause l
      ↔ ((denied (Ask number) ≡ l) ⊎ Contains (slice_index_or sides (number - 1) []) l)

-- what a step stands for, by its kind: an axiom is valid, a side step is a side clause of the list
abbrev pub IsGivenOf : (ℕ → Atom) → List (List AtomLit) → Step → StepKind → Type 0
IsGivenOf atom_of sides step Axiom = IsValid (step_clause atom_of step)
IsGivenOf atom_of sides step Side = IsSideStep sides (step_clause atom_of step)
IsGivenOf atom_of sides step Derived = Unit {0}

-- a log over atoms, beside side clauses of which none asks for a side clause
pub record IsLogOf (atom_of : ℕ → Atom) (sides : List (List AtomLit)) (steps : List Step) : Type 0 where
  pub proof : IsProof steps
  pub plain : (side : List AtomLit) → Contains sides side → AsksNothing side
  pub given : (number : ℕ) → IsStepOf steps number
      → IsGivenOf atom_of sides (step_at steps number) (step_at steps number).kind

-- each step's clause is true in every world beside the side clauses, and valid where it asks for none
pub record IsTrueOfWorlds (atom_of : ℕ → Atom) (sides : List (List AtomLit)) (steps : List Step) : Type 0 where
  pub beside : (number : ℕ) → IsStepOf steps number → (w : World) → IsWorld w
      → IsTrueBeside w sides (step_clause atom_of (step_at steps number))
  pub valid : (number : ℕ) → IsStepOf steps number → AsksNothing (step_clause atom_of (step_at steps number))
      → IsValid (step_clause atom_of (step_at steps number))
