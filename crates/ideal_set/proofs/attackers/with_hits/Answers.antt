use Rattle.std.proofs.lemmas.Result.{IfOk-weaker}
use Rattle.ideal_set.proofs.IdealLemmas.{hits_set}
use Rattle.ideal_set.proofs.attackers.with_hits.Goals as goal

pub returns : goal.returns
returns g c =
    IfOk-weaker c.union.result _ _
    (λ all more. hits_set (g.O.Oracle.framework c.args.oracle.now) c.args.hit.now c.args.set.now c.in_ok-range.range
    c.in_ok-struck.struck all c.requires c.in_ok-range.ensures c.in_ok-struck.ensures more)
    c.union.ensures
