use Rattle.std.proofs.lemmas.Result.{IfOk-weaker}
use Rattle.certificate_claims.proofs.RangeLists.{range_is}
use Rattle.certificate_claims.proofs.ranges.range_list.Goals as goal

pub returns : goal.returns
returns c = IfOk-weaker c.range_of.result _ _
    (λ r is. range_is c.args.plain.now c.args.set.now r c.live-live.ensures.form c.requires is) c.range_of.ensures
