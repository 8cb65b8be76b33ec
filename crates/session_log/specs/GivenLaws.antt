-- Laws of the steps by which a log goes on where a trade gave entries.
use Rattle.std.specs.Prelude.{◌≡◌, ℕ, ◌≤◌, ◌<◌, false, List, [], ◌++◌, length, slice_index_or, Contains, None, Some}
use Rattle.semantics.specs.Frameworks.{Framework}
use Rattle.meaning_atoms.specs.declared.axiom.AxiomName.{AxiomName}
use Rattle.oracle_face.specs.declared.entry.Entry.{Entry}
use Rattle.oracle_face.specs.declared.entry.EntryName.{EntryName}
use Rattle.oracle_face.specs.Logs.{OracleLog, by_axiom, is_loop, no_step}
use Rattle.oracle_face.specs.Needed.{IsNeeded}
use Rattle.session_log.specs.OwnSteps.{OwnSteps}

-- where nothing was given, each axiom that comes, but a loop clause, is one that the framework needs
abbrev pub OnlyNeeded : Type 0
OnlyNeeded = (f : Framework) (own : ℕ) (old new : OracleLog) → OwnSteps f own [] old new → (k : ℕ)
    → length old.steps ≤ k → k < length new.steps → (name : AxiomName)
    → (slice_index_or new.steps k no_step).source ≡ by_axiom name → is_loop name ≡ false → IsNeeded f name

-- where nothing was given, no step comes that was taken from an entry
abbrev pub NothingImported : Type 0
NothingImported = (f : Framework) (own : ℕ) (old new : OracleLog) → OwnSteps f own [] old new → (k : ℕ)
    → length old.steps ≤ k → k < length new.steps → (slice_index_or new.steps k no_step).imported ≡ None

-- each step that comes from an entry has the name of one that was given
abbrev pub ImportsAreGiven : Type 0
ImportsAreGiven = (f : Framework) (own : ℕ) (given : List Entry) (old new : OracleLog) → OwnSteps f own given old new
    → (k : ℕ) → length old.steps ≤ k → k < length new.steps → (name : EntryName)
    → (slice_index_or new.steps k no_step).imported ≡ Some name
    → (entry : Entry) × Contains given entry × (entry.name ≡ name)

-- steps are such steps still where more was given
abbrev pub StepsStay : Type 0
StepsStay = (f : Framework) (own : ℕ) (given more : List Entry) (old new : OracleLog) → OwnSteps f own given old new
    → OwnSteps f own (given ++ more) old new
