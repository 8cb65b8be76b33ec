-- Turns.
use Rattle.std.specs.Prelude.{◌≡◌, ℕ, Bool, List, [], ◌∷◌, Result, Ok, Err, if◌then◌else◌}
use Rattle.edit_rules.specs.declared.edit.Edit.{Edit}
use Rattle.edit_history.specs.declared.entry.HistoryEntry.{HistoryEntry}
use Rattle.core_machine.specs.Core.{Core}
use Rattle.core_machine.specs.Steps.{after_turn, committed}
use Rattle.core_events.specs.declared.stop.StepStop.{StepStop}
use Rattle.core_events.specs.declared.stop.StepStop.TheVariants.{Memory, NotAStep}

-- whether a commit adds the group
abbrev pub IsCommitted : Core → ℕ → List Edit → Bool → Type 0
IsCommitted core s edits takes =
    committed core s edits ≡ (if takes then record { session = s; edits = edits } ∷ [] else [])

-- one turn adds these entries, unless memory was refused: then all stays
abbrev pub Turns : Core → ℕ → List HistoryEntry → Core → Result (Unit {0}) StepStop → Type 0
Turns core s entries new (Ok done) = new ≡ after_turn core s entries
Turns core s entries new (Err NotAStep) = ⊥
Turns core s entries new (Err Memory) = new ≡ core
