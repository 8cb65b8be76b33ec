use Rattle.std.proofs.Common.{◌≡◌}
use Rattle.turn_lock.specs.Seats.{number_of}
use Rattle.edit_history.specs.Hubs.{IsSeatAt}
use Rattle.session_tests.proofs.tests.hubs.toggle.Given as goal

-- the seat stays the hub's
abbrev pub invariant-loop-turn : goal.invariant-loop-turn
invariant-loop-turn g l = IsSeatAt l.hub l.seat × (number_of l.seat ≡ number_of l.initial.seat)
