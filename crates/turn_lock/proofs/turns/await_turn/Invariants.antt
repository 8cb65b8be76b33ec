use Rattle.std.proofs.Common.{◌≡◌}
use Rattle.turn_lock.specs.Locks.{IsSamePlace}
use Rattle.turn_lock.proofs.turns.await_turn.Given as goal

-- nothing changed yet
abbrev pub invariant-loop : goal.invariant-loop
invariant-loop g l = IsSamePlace l.initial.place l.place × (l.place.me ≡ l.initial.place.me)
