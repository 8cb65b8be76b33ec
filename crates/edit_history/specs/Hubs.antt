-- What is said of a hub, its seats and its history.
use Rattle.std.specs.Prelude.{◌≡◌, ℕ, ◌<◌, ◌≤◌, List, All, Contains, length, take, drop}
use mathlib.Core.List.{IsPrefix}
use Rattle.semantics.specs.Frameworks.{Framework}
use Rattle.edit_rules.specs.declared.edit.Edit.{Edit}
use Rattle.edit_rules.specs.declared.effect.Effect.{Effect}
use Rattle.edit_rules.specs.declared.framework.Framework.{Framework as Held}
use Rattle.edit_rules.specs.Kinds.{framework_of}
use Rattle.turn_lock.specs.declared.board.Turned.{Ghosts}
use Rattle.turn_lock.specs.declared.seat.Seat.{Seat}
use Rattle.turn_lock.specs.Turns.{entries_of}
use Rattle.turn_lock.specs.Locks.{opened_with, seats_of}
use Rattle.turn_lock.specs.Seats.{AreAllSeats, AreFresh, MayEnter, list_of, number_of, turns_of}
use Rattle.edit_history.specs.declared.entry.HistoryEntry.{HistoryEntry}
use Rattle.edit_history.specs.declared.hub.Fresh.{Fresh}
use Rattle.edit_history.specs.declared.hub.History.{History}
use Rattle.edit_history.specs.declared.hub.Hub.{Hub}
use Rattle.edit_history.specs.declared.journal.Journal.{Journal}
use Rattle.edit_history.specs.Entries.{AreDone, IsAdded, edit_count, entries_in, framework_after, session_of}
use Rattle.edit_history.specs.Journals.{opening_of}

-- the framework at the beginning
abbrev pub start_of : Hub → Framework
start_of hub = framework_of (opened_with hub.lock).opening

-- how many edits the history may have
abbrev pub limit_of : Hub → ℕ
limit_of hub = (opened_with hub.lock).limit

-- how many seats the hub has
abbrev pub sessions_of : Hub → ℕ
sessions_of hub = seats_of hub.lock

-- the second history continues the first by entries of other sessions alone
pub record GainsOthers (session : ℕ) (before after : List HistoryEntry) : Type 0 where
  pub longer : IsPrefix before after
  pub own : entries_of session_of session after ≡ entries_of session_of session before

-- a commit that is taken: the history that it found continues what the session had seen, and the group is added to it
pub record IsCommitted (limit : ℕ) (f : Framework) (session : ℕ) (edits : List Edit) (before after : List HistoryEntry)
    (effects : List Effect) : Type 0 where
  pub found : List HistoryEntry
  pub gained : GainsOthers session before found
  pub added : IsAdded limit f session edits found after effects

-- the entries of the history after the first `from`, each with its effects, and the history's length
pub record IsFresh (f : Framework) (history : List HistoryEntry) (from : ℕ) (fresh : Fresh) : Type 0 where
  pub entries : entries_in fresh.entries ≡ drop from history
  pub effects : AreDone (framework_after f (take from history)) fresh.entries
  pub front : fresh.front ≡ length history

module _ {g : Ghosts Journal (Held × ℕ) HistoryEntry} where
  -- the seat is this hub's, and between two calls
  abbrev pub IsSeatAt : Hub → Seat Journal (Held × ℕ) HistoryEntry g → Type 0
  IsSeatAt hub seat = MayEnter opening_of hub.lock seat

  -- the seats 1 to n of a hub, which have seen nothing yet
  abbrev pub AreNewSeats : Hub → ℕ → List (Seat Journal (Held × ℕ) HistoryEntry g) → Type 0
  AreNewSeats hub n seats = AreFresh opening_of hub.lock n seats

  -- all the seats of a hub, in the order of their numbers
  abbrev pub AreSeatsOf : Hub → List (Seat Journal (Held × ℕ) HistoryEntry g) → Type 0
  AreSeatsOf hub seats = AreAllSeats opening_of hub.lock seats

-- what the history of a closed hub is to its seats
pub record EndsWith {g : Ghosts Journal (Held × ℕ) HistoryEntry} (hub : Hub)
    (seats : List (Seat Journal (Held × ℕ) HistoryEntry g))
    (history : History) : Type 0 where
  pub opening : framework_of history.opening ≡ start_of hub
  pub within : edit_count (entries_in history.entries.items) ≤ limit_of hub
  -- each entry is a seat's, and each of its edits is taken on the framework after those before it, with the effect
  -- beside it
  pub numbered : All (λ e. (0 < e.session) × (e.session ≤ sessions_of hub)) (entries_in history.entries.items)
  pub effects : AreDone (start_of hub) history.entries.items
  -- what each seat saw last is a beginning of the history, and has all its entries
  pub lists : All (λ seat. IsPrefix (list_of seat) (entries_in history.entries.items)) seats
  pub own : All
      (λ seat. entries_of session_of (number_of seat) (entries_in history.entries.items)
      ≡ entries_of session_of (number_of seat) (list_of seat)) seats
  -- a seat whose last turn was no later saw a beginning of what the other saw
  pub ordered : (one two : Seat Journal (Held × ℕ) HistoryEntry g) → Contains seats one → Contains seats two
      → turns_of one ≤ turns_of two → IsPrefix (list_of one) (list_of two)
