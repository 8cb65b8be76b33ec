use Rattle.std.proofs.Common.{ℕ, ◌<◌, ◌≢◌, get_or}
use Rattle.core_events.specs.declared.seats.MachineSeat.{MachineSeat}
use Rattle.core_events.proofs.seats.find_seat.Given as goal

abbrev pub invariant-loop-index : goal.invariant-loop-index
invariant-loop-index l =
    (k : ℕ) (blank : MachineSeat) → k < l.index → (get_or l.seats k blank).number ≢ l.number
