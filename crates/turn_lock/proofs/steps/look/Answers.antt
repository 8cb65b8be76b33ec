use Rattle.std.proofs.Common.{arith}
use Rattle.turn_lock.proofs.TicketLaws.{looks}
use Rattle.turn_lock.proofs.steps.look.Goals as goal

pub load-requires : goal.load-requires
load-requires g c = let words = c.requires.table.1 in
    (c.requires.table.0, omega arith, looks g.V.Turned.opening g.V.Turned.history g.V.Turned.number _ _ _ _ c.requires.waits)
