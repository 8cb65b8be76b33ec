use Rattle.std.proofs.Common.{arith}
use Rattle.hinted_log.specs.Logs.{log_of}
use Rattle.hinted_log.proofs.Proofs.{stored_less}
use Rattle.hinted_log.proofs.log.Log.take_back.Goals as goal

pub invariant_of-self : goal.invariant_of-self
invariant_of-self c =
    let s = c.self.inside in
    rw c.pop.ensures (stored_less (log_of s.limit s.steps) s.trail.lits s.trail.vars _ c.self.invariant (omega arith))
