use Rattle.std.proofs.Common.{arith}
use Rattle.hinted_log.proofs.Parts.{length-steps_of}
use Rattle.hinted_log.proofs.store.Store.len.Goals as goal

pub returns : goal.returns
returns c = rw (← c.self.view_is) (omega (arith, length-steps_of _ _ _ c.self.invariant))
