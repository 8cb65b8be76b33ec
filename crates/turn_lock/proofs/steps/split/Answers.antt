use Rattle.std.proofs.Common.{arith}
use Rattle.turn_lock.proofs.SeatLaws.{splits}
use Rattle.turn_lock.proofs.steps.split.Goals as goal

pub split_seat-requires : goal.split_seat-requires
split_seat-requires g c = let words = c.requires.table.1 in
    (c.requires.table.0, omega arith, splits g.V.Turned.opening g.V.Turned.history g.V.Turned.number _ _ _)
