-- How an engine follows a history.
use Rattle.std.specs.Prelude.{◌≡◌, ℕ, ◌≤◌, List, [], ◌∷◌, length, take}
use Rattle.semantics.specs.Frameworks.{Framework}
use Rattle.meaning_atoms.specs.declared.axiom.AxiomName.{AxiomName}
use Rattle.edit_rules.specs.declared.edit.Edit.{Edit}
use Rattle.edit_rules.specs.Replay.{replay}
use Rattle.edit_history.specs.declared.entry.HistoryEntry.{HistoryEntry}
use Rattle.edit_history.specs.Entries.{framework_after}
use Rattle.oracle_face.specs.Growing.{Grows, NoSide}
use Rattle.oracle_face.specs.Logs.{OracleLog, closings_of, units_of}
use Rattle.oracle_core.specs.Engines.{EngineState}
use Rattle.framework_solver.specs.Updating.{TakesNeeded}

-- the engine is for the framework after the first entries of the history, so many
pub record HasFollowed (f : Framework) (history : List HistoryEntry) (count : ℕ) (engine : EngineState) : Type 0 where
  pub within : count ≤ length history
  pub framework : engine.framework ≡ framework_after f (take count history)

-- an axiom comes that the framework needs after some of the edits
pub record TakesNeededAfter (f : Framework) (edits : List Edit) (name : AxiomName) (old new : OracleLog)
    : Type 0 where
  pub count : ℕ
  pub within : count ≤ length edits
  pub takes : TakesNeeded (replay f (take count edits)) name old new

-- such axioms come one after the other
abbrev pub AddsNeededAfter : Framework → List Edit → List AxiomName → OracleLog → OracleLog → Type 0
AddsNeededAfter f edits [] old new = new ≡ old
AddsNeededAfter f edits (name ∷ more) old new =
    (mid : OracleLog) × TakesNeededAfter f edits name old mid × AddsNeededAfter f edits more mid new

-- while the edits were followed, the log gained such axioms and nothing else: no side clause, no unit, and no step that
-- only ends a search
pub record CatchesUp (f : Framework) (edits : List Edit) (old new : OracleLog) : Type 0 where
  pub names : List AxiomName
  pub adds : AddsNeededAfter f edits names old new
  pub grows : Grows NoSide old new
  pub units : units_of new ≡ units_of old
  pub closings : closings_of new ≡ closings_of old
