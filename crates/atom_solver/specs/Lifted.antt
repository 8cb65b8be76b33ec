-- The log over atoms that a solver's log stands for, which no caller sees.
use Rattle.std.specs.Prelude.{◌≡◌, ℕ, zero, suc, ◌+◌, ◌==◌, ◌≤◌, Bool, true, false, not, List, [], ◌∷◌, ◌++◌, length, map, Option, None}
use Rattle.std.specs.Prelude.{slice_index_or, Some}
use Rattle.std.specs.List.{list_any}
use Rattle.plain_lits.specs.declared.lit.Lit.{Lit}
use Rattle.plain_lits.specs.Checking.{HaveRoomFor}
use Rattle.hinted_log.specs.Logs.{Step, clauses_of, no_step}
use Rattle.sat_core.specs.Solving.{SolverState}
use Rattle.meaning_atoms.specs.declared.atom.Atom.{Atom}
use Rattle.meaning_atoms.specs.declared.atom.Atom.TheVariants.{Cf}
use Rattle.meaning_atoms.specs.declared.atom.AtomLit.{AtomLit}
use Rattle.meaning_atoms.specs.declared.axiom.AxiomName.{AxiomName}
use Rattle.oracle_face.specs.declared.entry.EntryName.{EntryName}
use Rattle.oracle_face.specs.declared.face.Pending.{Pending}
use Rattle.oracle_face.specs.Logs.{OracleLog, LogStep, SideClause}
use Rattle.oracle_face.specs.StepSources.{imported_of, source_of}
use Rattle.oracle_face.specs.declared.step_source.StepSource.{StepSource}
use Rattle.oracle_face.specs.declared.step_source.StepSource.TheVariants.{Axiom, Hints}
use Rattle.atom_solver.specs.States.{AtomState}

-- the atom of a variable, the literal of a literal, and the clause of a clause
abbrev pub atom_at : List Atom → ℕ → Atom
atom_at atoms var = slice_index_or atoms var Cf

abbrev pub lit_of : List Atom → Lit → AtomLit
lit_of atoms l = record { atom = atom_at atoms l.var; positive = l.positive }

abbrev pub atoms_of : List Atom → List Lit → List AtomLit
atoms_of atoms clause = map (lit_of atoms) clause

-- whether the step of a number is in use
abbrev pub in_use : List ℕ → ℕ → Bool
in_use active number = list_any (λ n. n == number) active

-- a step that stands for a step; it only ended a search exactly where it isn't in use
abbrev pub lifted_step : List Atom → Step → StepSource → Bool → LogStep
lifted_step atoms step origin used = record {
  clause = atoms_of atoms step.clause;
  source = source_of origin step.hints;
  imported = imported_of origin;
  closing = not used;
}

-- what a function gives at each number below a bound, in order
abbrev pub listed : {X : Type 0} → (ℕ → X) → ℕ → List X
listed at zero = []
listed at (suc count) = listed at count ++ at count ∷ []

-- the step that stands for the step at an index; one without an origin follows from its hints
abbrev pub lifted_at : List Atom → SolverState → List StepSource → ℕ → LogStep
lifted_at atoms s origins k =
    lifted_step atoms (slice_index_or s.log.steps k no_step) (slice_index_or origins k Hints) (in_use s.active (k + 1))

-- the log that so many steps of a solver's log stand for, and the one that all of them do
abbrev pub log_upto : List Atom → SolverState → List StepSource → List SideClause → ℕ → OracleLog
log_upto atoms s origins sides count = record {
  limit = s.log.limit;
  steps = listed (lifted_at atoms s origins) count;
  sides = sides;
}

abbrev pub log_over : List Atom → SolverState → List StepSource → List SideClause → OracleLog
log_over atoms s origins sides = log_upto atoms s origins sides (length s.log.steps)

abbrev pub state_over : List Atom → SolverState → List StepSource → List SideClause → Option Pending → AtomState
state_over atoms s origins sides pending = record { log = log_over atoms s origins sides; pending = pending }

-- each variable of a clause has an atom, no step that is still to come has an origin, and each axiom is in use
pub record IsLifting (atoms : List Atom) (s : SolverState) (origins : List StepSource) : Type 0 where
  pub room : HaveRoomFor (length atoms) (clauses_of s.log.steps)
  pub marked : length origins ≤ length s.log.steps
  pub used : (k : ℕ) (name : AxiomName) → slice_index_or origins k Hints ≡ Axiom name → in_use s.active (k + 1) ≡ true
