use Rattle.std.proofs.Common.{length}
use Rattle.turn_lock.specs.Locks.{IsAt, table_of}
use Rattle.turn_lock.specs.Seats.{IsGathering}
use Rattle.turn_lock.proofs.closing.gather.Given as goal

-- the place took in what is no longer left
abbrev pub invariant-loop-seat : goal.invariant-loop-seat
invariant-loop-seat g l = IsAt (table_of l.lock) l.place × IsGathering g.V.Turned.opening l.lock l.fn.seats.items l.left.items l.place.me.0

abbrev pub decreases-loop-seat : goal.decreases-loop-seat
decreases-loop-seat g l = length l.left.items
