-- What a refresh tells.
use Rattle.std.proofs.Common.{arith, ◌≡◌, ℕ, ◌+◌, List, drop, sym, ap, ◌∙◌}
use Rattle.std.specs.Prelude.{◌≤◌, length}
use Rattle.std.proofs.lemmas.List.{drop-map, length-append, length-map}
use mathlib.Core.List.{IsPrefix}
use Rattle.semantics.specs.Frameworks.{Framework}
use Rattle.edit_history.specs.declared.entry.Change.{Change}
use Rattle.edit_history.specs.declared.entry.HistoryEntry.{HistoryEntry}
use Rattle.edit_history.specs.Entries.{AreDone, entries_in, entry_of}
use Rattle.edit_history.specs.Hubs.{IsFresh}
use Rattle.edit_history.proofs.EntryLemmas.{done_from}

-- what was seen is still there
pub still_there : (from : ℕ) (seen : List HistoryEntry) (changes : List Change) → from ≤ length seen
    → IsPrefix seen (entries_in changes) → from ≤ length changes
still_there from seen changes low longer =
    let whole : length seen + length longer.0 ≡ length changes =
    sym (length-append seen longer.0) ∙ ap length longer.1 ∙ length-map changes entry_of in
    omega arith

-- the changes from an entry on, over the framework before them
pub fresh_from : (f g : Framework) (from : ℕ) (changes told : List Change) (list : List HistoryEntry) (front : ℕ)
    → f ≡ g → AreDone f changes → told ≡ drop from changes → list ≡ entries_in changes → front ≡ length list
    → IsFresh g list from (record { entries = told; front = front })
fresh_from f g from changes told list front same done is seen long =
    rw (sym same, is, seen) (record {
      entries = sym (drop-map entry_of from changes);
      effects = done_from f from changes done;
      front = long ∙ ap length seen;
    })
