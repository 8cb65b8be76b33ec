use Rattle.std.proofs.Common.{arith}
use Rattle.turn_lock.proofs.PassLaws.{passes_on}
use Rattle.turn_lock.proofs.steps.pass.Goals as goal

pub fetch_add-requires : goal.fetch_add-requires
fetch_add-requires g c = let words = c.requires.table.1 in
    (c.requires.table.0, omega arith, passes_on g.V.Turned.opening g.V.Turned.history g.V.Turned.number _ _ _ _ c.requires.leaving)
