use Rattle.std.proofs.Common.{◌≡◌}
use Rattle.turn_lock.specs.Seats.{number_of}
use Rattle.edit_history.specs.Hubs.{IsSeatAt}
use Rattle.session_tests.proofs.tests.hubs.watch.Given as goal

-- the seat stays the hub's
abbrev pub invariant-loop : goal.invariant-loop
invariant-loop g l = IsSeatAt l.hub l.seat × (number_of l.seat ≡ number_of l.initial.seat)
