-- What a server's closing needs, and how it goes on from the last hub to the first.
use Rattle.std.specs.Prelude.{◌≡◌, ℕ, ◌≤◌, List, [], ◌++◌, All, length, vec_capacity, vec_len}
use Rattle.std.specs.Global.{Vec}
use Rattle.edit_rules.specs.declared.framework.Framework.{Framework as Held}
use Rattle.turn_lock.specs.declared.board.Turned.{Ghosts}
use Rattle.turn_lock.specs.declared.seat.Seat.{Seat}
use Rattle.edit_history.specs.declared.entry.HistoryEntry.{HistoryEntry}
use Rattle.edit_history.specs.declared.hub.History.{History}
use Rattle.edit_history.specs.declared.hub.Hub.{Hub}
use Rattle.edit_history.specs.declared.journal.Journal.{Journal}
use Rattle.edit_history.specs.Hubs.{AreSeatsOf, EndsWith}

-- the list is empty, and so many items find room
pub record IsRoom {X : Type 0} (count : ℕ) (room : Vec X) : Type 0 where
  pub empty : room.items ≡ []
  pub none : vec_len room ≡ 0
  pub enough : count ≤ vec_capacity room

-- so many rooms, each for so many items
pub record AreRooms {X : Type 0} (hubs seats : ℕ) (rooms : List (Vec X)) : Type 0 where
  pub one_each : length rooms ≡ hubs
  pub each : All (IsRoom seats) rooms

module _ {g : Ghosts Journal (Held × ℕ) HistoryEntry} where
  -- the last of the seats are all those of the hub
  abbrev pub IsLastOf : Hub → List (Seat Journal (Held × ℕ) HistoryEntry g) → Type 0
  IsLastOf hub seats =
      (rest : List (Seat Journal (Held × ℕ) HistoryEntry g))
      × (own : List (Seat Journal (Held × ℕ) HistoryEntry g)) × (seats ≡ rest ++ own) × AreSeatsOf hub own

  -- those went, and their hub ended with this history
  abbrev pub EndsLast : Hub → List (Seat Journal (Held × ℕ) HistoryEntry g)
      → List (Seat Journal (Held × ℕ) HistoryEntry g) → History → Type 0
  EndsLast hub old new history =
      (rest own : List (Seat Journal (Held × ℕ) HistoryEntry g)) → old ≡ rest ++ own → AreSeatsOf hub own
      → (new ≡ rest) × EndsWith hub own history
