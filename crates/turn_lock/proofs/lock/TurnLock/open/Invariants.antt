use Rattle.std.proofs.Common.{◌≡◌}
use Rattle.turn_lock.specs.Locks.{IsSamePlace}
use Rattle.turn_lock.specs.Seats.{AreFresh}
use Rattle.turn_lock.proofs.lock.TurnLock.open.Given as goal

-- the seats so far, and the root as it was
abbrev pub invariant-loop-before : goal.invariant-loop-before
invariant-loop-before g l = IsSamePlace l.initial.root l.root × (l.root.me ≡ l.initial.root.me) × AreFresh g.V.Turned.opening l.lock l.before l.seats.items
