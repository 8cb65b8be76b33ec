use Rattle.std.proofs.Common.{arith}
use Rattle.turn_lock.proofs.SeatLaws.{joins}
use Rattle.turn_lock.proofs.steps.join.Goals as goal

pub join_seat-requires : goal.join_seat-requires
join_seat-requires g c = let words = c.requires.table.0.1 in
    (c.requires.table.0.0, c.requires.table.1.0, c.requires.empty, omega arith, joins g.V.Turned.opening g.V.Turned.history g.V.Turned.number _ _ _ _ _ c.requires.idle.0 c.requires.idle.1)
