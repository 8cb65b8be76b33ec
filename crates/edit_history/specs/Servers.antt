-- What is said of a server, its seats and its histories. Frameworks, hubs and histories stand in one order.
use Rattle.std.specs.Prelude.{◌≡◌, ℕ, ◌<◌, List, [], ◌∷◌, ◌++◌, length, slice_index_or}
use Rattle.edit_rules.specs.declared.framework.Framework.{Framework as Held}
use Rattle.edit_rules.specs.Kinds.{framework_of}
use Rattle.turn_lock.specs.declared.board.Turned.{Ghosts}
use Rattle.turn_lock.specs.declared.seat.Seat.{Seat}
use Rattle.edit_history.specs.declared.entry.HistoryEntry.{HistoryEntry}
use Rattle.edit_history.specs.declared.hub.History.{History}
use Rattle.edit_history.specs.declared.hub.Hub.{Hub}
use Rattle.edit_history.specs.declared.journal.Journal.{Journal}
use Rattle.edit_history.specs.declared.server.Server.{Server}
use Rattle.edit_history.specs.Hubs.{AreNewSeats, AreSeatsOf, EndsWith, limit_of, sessions_of, start_of}

-- its hubs, one for each framework
abbrev pub hubs_of : Server → List Hub
hubs_of server = server.hubs.items

-- a hub over the framework, for so many edits and with so many seats
pub record IsHubOf (framework : Held) (limit count : ℕ) (hub : Hub) : Type 0 where
  pub start : start_of hub ≡ framework_of framework
  pub limit_is : limit_of hub ≡ limit
  pub sessions : sessions_of hub ≡ count

-- the k-th hub is over the k-th framework, with the k-th count of seats
pub record AreHubsOf (frameworks : List Held) (limit : ℕ) (counts : List ℕ) (hubs : List Hub) : Type 0 where
  pub one_each : length hubs ≡ length frameworks
  pub each : (k : ℕ) (framework : Held) (count : ℕ) (hub : Hub) → k < length hubs → IsHubOf
      (slice_index_or frameworks k framework) limit (slice_index_or counts k count) (slice_index_or hubs k hub)

abbrev pub IsServerOf : List Held → ℕ → List ℕ → Server → Type 0
IsServerOf frameworks limit counts server = AreHubsOf frameworks limit counts (hubs_of server)

-- the second list is one part for each item of the first, in order, and each part goes with its item
abbrev pub GoTogether : {X Y : Type 0} → (X → List Y → Type 0) → List X → List Y → Type 0
GoTogether {Y = Y} P [] ys = ys ≡ []
GoTogether {Y = Y} P (x ∷ xs) ys =
    (own : List Y) × (rest : List Y) × (ys ≡ own ++ rest) × P x own × GoTogether P xs rest

module _ {g : Ghosts Journal (Held × ℕ) HistoryEntry} where
  -- the seats of hubs, hub by hub, which have seen nothing yet
  abbrev pub AreNewSeatsBy : List Hub → List (Seat Journal (Held × ℕ) HistoryEntry g) → Type 0
  AreNewSeatsBy hubs seats = GoTogether (λ hub own. AreNewSeats hub (sessions_of hub) own) hubs seats

  -- all the seats of hubs, hub by hub, each hub's in the order of their numbers
  abbrev pub AreSeatsBy : List Hub → List (Seat Journal (Held × ℕ) HistoryEntry g) → Type 0
  AreSeatsBy hubs seats = GoTogether AreSeatsOf hubs seats

  -- one history for each hub, in order, which is to the hub's own seats what its closing gives
  abbrev pub EndTogether : List Hub → List (Seat Journal (Held × ℕ) HistoryEntry g) → List History → Type 0
  EndTogether [] seats histories = (seats ≡ []) × (histories ≡ [])
  EndTogether (hub ∷ hubs) seats [] = ⊥
  EndTogether (hub ∷ hubs) seats (history ∷ histories) =
      (own : List (Seat Journal (Held × ℕ) HistoryEntry g))
      × (rest : List (Seat Journal (Held × ℕ) HistoryEntry g))
      × (seats ≡ own ++ rest) × EndsWith hub own history × EndTogether hubs rest histories
