use Rattle.std.proofs.Common.{length, arith, ap}
use Rattle.sat_core.proofs.Descending.{on_back}
use Rattle.sat_core.proofs.decision_loop.DecisionLoop.count_conflict.Goals as goal

pub returns : goal.returns
returns c =
    let deep = c.if-starts-le2.false in
    let same = ap length c.starts.ensures.starts in
    on_back _ _ 2 c.starts.ensures.form (omega arith) (omega (arith, deep, same)) c.back_to.ensures
