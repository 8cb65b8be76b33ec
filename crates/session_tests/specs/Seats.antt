-- Seats of a hub.
use Rattle.turn_lock.specs.declared.board.Turned.{Ghosts}
use Rattle.turn_lock.specs.declared.seat.Seat.{Seat}
use Rattle.turn_lock.specs.Seats.{IsFresh}
use Rattle.edit_rules.specs.declared.framework.Framework.{Framework as Held}
use Rattle.std.specs.Prelude.{ℕ}
use Rattle.edit_history.specs.declared.entry.HistoryEntry.{HistoryEntry}
use Rattle.edit_history.specs.declared.hub.Hub.{Hub}
use Rattle.edit_history.specs.declared.journal.Journal.{Journal}
use Rattle.edit_history.specs.Journals.{opening_of}

-- the seat is this hub's and has seen nothing yet
abbrev pub IsNewSeat : {g : Ghosts Journal (Held × ℕ) HistoryEntry} → Hub → Seat Journal (Held × ℕ) HistoryEntry g →
    Type 0
IsNewSeat hub seat = IsFresh opening_of hub.lock seat
