-- What an update leaves of an engine's log.
use Rattle.std.specs.Prelude.{◌≡◌, List, [], ◌∷◌}
use Rattle.semantics.specs.Frameworks.{Framework}
use Rattle.meaning_atoms.specs.declared.atom.AtomLit.{AtomLit}
use Rattle.meaning_atoms.specs.declared.axiom.AxiomName.{AxiomName}
use Rattle.oracle_face.specs.Logs.{OracleLog}
use Rattle.oracle_face.specs.Needed.{IsNeeded}
use Rattle.session_log.specs.Steps.{TakesAxiom}
use Rattle.entry_taking.specs.Once.{HasNoStepOf}

-- an axiom that the framework needs comes, as a step of one's own that searches use; no step before it is that axiom
pub record TakesNeeded (f : Framework) (name : AxiomName) (old new : OracleLog) : Type 0 where
  pub needed : IsNeeded f name
  pub once : HasNoStepOf old.steps name
  pub clause : List AtomLit
  pub takes : TakesAxiom name clause old new

-- such axioms come one after the other
abbrev pub AddsNeeded : Framework → List AxiomName → OracleLog → OracleLog → Type 0
AddsNeeded f [] old new = new ≡ old
AddsNeeded f (name ∷ more) old new = (mid : OracleLog) × TakesNeeded f name old mid × AddsNeeded f more mid new

-- the log has grown by such axioms alone
pub record GainsNeeded (f : Framework) (old new : OracleLog) : Type 0 where
  pub names : List AxiomName
  pub adds : AddsNeeded f names old new
