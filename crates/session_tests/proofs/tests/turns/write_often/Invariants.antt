use Rattle.std.proofs.Common.{◌≡◌}
use Rattle.turn_lock.specs.Seats.{MayEnter, number_of}
use Rattle.session_tests.proofs.tests.turns.write_often.Given as goal

-- the seat stays the lock's
abbrev pub invariant-loop : goal.invariant-loop
invariant-loop g l = MayEnter (λ n. n.title) l.lock l.seat × (number_of l.seat ≡ number_of l.initial.seat)
