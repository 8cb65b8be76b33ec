-- What calls for an axiom.
use Rattle.std.specs.Prelude.{◌≡◌, ◌≤◌, ℕ, List, length, take, Some}
use Rattle.semantics.specs.Frameworks.{Framework}
use Rattle.meaning_atoms.specs.declared.axiom.AxiomName.{AxiomName}
use Rattle.edit_rules.specs.declared.edit.Edit.{Edit}
use Rattle.edit_rules.specs.Replay.{replay}
use Rattle.oracle_face.specs.declared.entry.Entry.{Entry as PoolEntry}
use Rattle.oracle_face.specs.Needed.{IsNeeded}
use Rattle.session_log.specs.OwnSteps.{NamesAxiom}
use Rattle.core_events.specs.declared.places.IndexedEntry.{IndexedEntry}
use Rattle.core_events.specs.Places.{pool_of}

-- the axiom is needed on the framework after some of the edits
pub record IsNeededAmong (opening : Framework) (edits : List Edit) (name : AxiomName) : Type 0 where
  pub count : ℕ
  pub within : count ≤ length edits
  pub needed : IsNeeded (replay opening (take count edits)) name

-- some entry of the pool names it
pub record IsNamedAmong (places : List IndexedEntry) (name : AxiomName) : Type 0 where
  pub index : ℕ
  pub entry : PoolEntry
  pub there : pool_of places index ≡ Some entry
  pub named : NamesAxiom name entry.origin

-- the entry under the index does
pub record IsNamedUnder (places : List IndexedEntry) (name : AxiomName) (index : ℕ) : Type 0 where
  pub entry : PoolEntry
  pub there : pool_of places index ≡ Some entry
  pub named : NamesAxiom name entry.origin
