use Rattle.std.proofs.Common.{length, arith, ap}
use Rattle.sat_core.proofs.Running.{front_rests}
use Rattle.sat_core.proofs.decision_loop.DecisionLoop.back_to_front.Goals as goal

pub returns-clause-resting : goal.returns-clause-resting
returns-clause-resting c = λ front f.
    let deep = c.if-starts-le1.false in
    let same = ap length c.starts.ensures.starts in
    front_rests front _ _ c.vars-form.ensures.form (omega (arith, deep, same)) c.back_to.ensures f
