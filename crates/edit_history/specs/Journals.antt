-- What a journal means.
use Rattle.std.specs.Prelude.{ℕ, List}
use Rattle.edit_rules.specs.declared.framework.Framework.{Framework}
use Rattle.edit_history.specs.declared.entry.HistoryEntry.{HistoryEntry}
use Rattle.edit_history.specs.declared.journal.Journal.{Journal}
use Rattle.edit_history.specs.Entries.{entries_in}

-- what no commit changes: the framework at the beginning, and how many edits there may be
abbrev pub opening_of : Journal → Framework × ℕ
opening_of journal = (journal.opening, journal.limit)

abbrev pub history_of : Journal → List HistoryEntry
history_of journal = entries_in journal.changes.items
