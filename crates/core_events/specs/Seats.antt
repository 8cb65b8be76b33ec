-- The sessions that a list of seats means.
use Rattle.std.specs.Prelude.{◌≡◌, ◌≢◌, ℕ, ◌<◌, ◌==◌, List, [], ◌∷◌, length, slice_index_or, if◌then◌else◌}
use Rattle.core_machine.specs.Core.{CoreSession}
use Rattle.core_events.specs.declared.seats.MachineSeat.{MachineSeat}
use Rattle.core_events.specs.declared.seats.SessionState.{SessionState}

abbrev pub session_of : SessionState → CoreSession
session_of s = record { seen = s.seen; log = s.log; shared = s.shared.items; answered = s.answered }

-- a session that has done nothing
abbrev pub fresh : ℕ → CoreSession
fresh log_limit = record {
  seen = 0;
  log = record { limit = log_limit; steps = []; sides = [] };
  shared = [];
  answered = 0;
}

-- the session of each number: that of the first seat, or one that has done nothing
abbrev pub sessions_of : ℕ → List MachineSeat → ℕ → CoreSession
sessions_of log_limit [] n = fresh log_limit
sessions_of log_limit (seat ∷ seats) n =
    if n == seat.number then session_of seat.session else sessions_of log_limit seats n

-- the first seat of a number stands at the index
pub record IsSeatAt (seats : List MachineSeat) (number index : ℕ) : Type 0 where
  pub within : index < length seats
  pub is : (blank : MachineSeat) → (slice_index_or seats index blank).number ≡ number
  pub first : (k : ℕ) (blank : MachineSeat) → k < index → (slice_index_or seats k blank).number ≢ number

-- no seat has the number
pub record HasNoSeat (seats : List MachineSeat) (number : ℕ) : Type 0 where
  pub none : (k : ℕ) (blank : MachineSeat) → k < length seats → (slice_index_or seats k blank).number ≢ number
