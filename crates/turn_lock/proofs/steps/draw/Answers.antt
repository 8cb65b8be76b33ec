use Rattle.std.proofs.Common.{arith}
use Rattle.turn_lock.proofs.TicketLaws.{draws}
use Rattle.turn_lock.proofs.steps.draw.Goals as goal

pub fetch_add-requires : goal.fetch_add-requires
fetch_add-requires g c = let words = c.requires.table.1 in
    (c.requires.table.0, omega arith, draws g.V.Turned.opening g.V.Turned.history g.V.Turned.number _ _ _ _ c.requires.idle c.requires.numbered.0 c.requires.numbered.1)
