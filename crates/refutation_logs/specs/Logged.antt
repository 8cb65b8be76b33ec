-- A refutation as a log: each step of the one is a step of the other.
use Rattle.std.specs.Prelude.{◌≡◌, ℕ, ◌<◌, ◌≤◌, List, [], length, take, slice_index_or, Ok}
use Rattle.plain_lits.specs.declared.lit.Lit.{Lit}
use Rattle.plain_lits.specs.HintCheck.{Checks}
use Rattle.semantics.specs.Frameworks.{Framework}
use Rattle.meaning_atoms.specs.declared.atom.Atom.{Atom}
use Rattle.meaning_atoms.specs.declared.atom.AtomLit.{AtomLit}
use Rattle.meaning_atoms.specs.Literals.{negated}
use Rattle.certificate_claims.specs.declared.certificate.Step.{Step}
use Rattle.certificate_claims.specs.declared.certificate.Step.TheVariants as step_of
use Rattle.certificate_claims.specs.Refutations.{IsAxiomOf, StepHolds, no_step, step_clause, step_clauses}
use Rattle.hinted_log.specs.Logs.{Step as LogStep, no_step as no_logged}
use Rattle.hinted_log.specs.declared.step_kind.StepKind.{StepKind}
use Rattle.hinted_log.specs.declared.step_kind.StepKind.TheVariants as kind
use Rattle.refutation_logs.specs.Variables.{IsShown, StandsFor, atoms_of}

-- each step stands behind those before it
pub record AllHold (f : Framework) (sides : List (List AtomLit)) (steps : List Step) : Type 0 where
  pub each : (k : ℕ) → k < length steps → StepHolds f sides (take k steps) (slice_index_or steps k no_step)

-- what a step is in a log
abbrev pub kind_of : Step → StepKind
kind_of (step_of.Axiom name) = kind.Axiom
kind_of (step_of.Side number) = kind.Side
kind_of (step_of.Derived literals hints) = kind.Derived

-- the hints by which the check takes a clause, up to that of the clause which is false
pub record AreHintsUsed (clauses : List (List AtomLit)) (literals : List AtomLit) (hints used : List ℕ) : Type 0 where
  pub count : ℕ
  pub taken : Checks negated clauses literals hints (Ok count)
  pub used_are : used ≡ take count hints

-- a derived step has these behind steps with such clauses, any other step has none
abbrev pub HasHints : List (List AtomLit) → Step → List ℕ → Type 0
HasHints clauses (step_of.Axiom name) used = used ≡ []
HasHints clauses (step_of.Side number) used = used ≡ []
HasHints clauses (step_of.Derived literals hints) used = AreHintsUsed clauses literals hints used

-- a step of a log is the step of a refutation, behind the steps before it
pub record IsStepFor (atoms : List Atom) (sides : List (List AtomLit)) (before : List Step) (step : Step)
    (logged : LogStep) : Type 0 where
  pub kind : logged.kind ≡ kind_of step
  pub clause : StandsFor atoms (step_clause sides step) logged.clause
  pub hints : HasHints (step_clauses sides before) step logged.hints

-- the steps of a log are those of a refutation beside side clauses, over its atoms by first appearance
pub record IsLogFor (sides : List (List AtomLit)) (steps : List Step) (atoms : List Atom)
    (logged : List LogStep) : Type 0 where
  pub appearance : atoms ≡ atoms_of (step_clauses sides steps)
  pub long : length logged ≡ length steps
  pub each : (k : ℕ) → k < length steps → IsStepFor atoms sides (take k steps) (slice_index_or steps k no_step)
      (slice_index_or logged k no_logged)

-- ---- one step more

-- a step can be added: an axiom of the framework, one of so many side clauses, or a clause that is shown
abbrev pub CanBeAdded : Framework → ℕ → List Atom → List (List Lit) → Step → Type 0
CanBeAdded f count atoms logged (step_of.Axiom name) = IsAxiomOf f name
CanBeAdded f count atoms logged (step_of.Side number) = (1 ≤ number) × (number ≤ count)
CanBeAdded f count atoms logged (step_of.Derived literals hints) = IsShown atoms logged literals hints
