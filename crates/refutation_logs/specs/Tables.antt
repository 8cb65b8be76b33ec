-- The steps of a refutation as they are checked over numbered variables and written.
use Rattle.std.specs.Prelude.{◌≡◌, ℕ, ◌≤◌, List, [], ◌∷◌, ◌++◌}
use Rattle.semantics.specs.Frameworks.{Framework}
use Rattle.meaning_atoms.specs.declared.atom.AtomLit.{AtomLit}
use Rattle.certificate_claims.specs.declared.certificate.Step.{Step}
use Rattle.certificate_claims.specs.declared.certificate.Step.TheVariants.{Axiom, Derived, Side}
use Rattle.certificate_claims.specs.Refutations.{IsAxiomOf, step_clause}
use Rattle.hinted_log.specs.Logs.{IsGiven, IsProof, Step as LogStep, clauses_of}
use Rattle.lrat_writing.specs.declared.writer.Writer.{Writer}
use Rattle.lrat_writing.specs.Writers.{IsWriterOf}
use Rattle.refutation_logs.specs.declared.steps.Table.{Table}
use Rattle.refutation_logs.specs.Logged.{HasHints, IsLogFor, kind_of}
use Rattle.refutation_logs.specs.Variables.{AreStanding, StandsFor, with_atoms}

-- a step has a clause: it is an axiom of the framework, one of so many side clauses, or derived
abbrev pub IsThere : Framework → ℕ → Step → Type 0
IsThere f count (Axiom name) = IsAxiomOf f name
IsThere f count (Side number) = (1 ≤ number) × (number ≤ count)
IsThere f count (Derived literals hints) = Unit {0}

-- a step is added as that of a log, and its atoms to the others; whichever clauses those before it stand for, its hints
-- are those by which the check takes it behind these
pub record AddsStepFor (sides : List (List AtomLit)) (step : Step) (old new : Table) (before after : Writer)
    : Type 0 where
  pub logged : LogStep
  pub added : new.clauses ≡ old.clauses ++ logged.clause ∷ []
  pub written : (steps : List LogStep) → IsWriterOf steps before → IsWriterOf (steps ++ logged ∷ []) after
  pub proof : (steps : List LogStep) → clauses_of steps ≡ old.clauses → IsGiven steps logged logged.kind
  pub appearance : new.atoms ≡ with_atoms old.atoms (step_clause sides step)
  pub kind : logged.kind ≡ kind_of step
  pub clause : StandsFor new.atoms (step_clause sides step) logged.clause
  pub hints : (clauses : List (List AtomLit)) → AreStanding old.atoms clauses old.clauses
      → HasHints clauses step logged.hints
  pub idle : new.trail.lits ≡ []
  pub count : after.count ≡ before.count

-- the steps of a refutation are there as those of a log, and written
pub record IsLogged (sides : List (List AtomLit)) (steps : List Step) (table : Table) (writer : Writer)
    : Type 0 where
  pub logged : List LogStep
  pub log : IsLogFor sides steps table.atoms logged
  pub proof : IsProof logged
  pub clauses : table.clauses ≡ clauses_of logged
  pub written : IsWriterOf logged writer
  pub idle : table.trail.lits ≡ []
