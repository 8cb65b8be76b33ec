use Rattle.std.proofs.Common.{arith}
use Rattle.certificate_claims.proofs.RangeLists.{ranged_more, ranged_all}
use Rattle.certificate_claims.proofs.ranges.with_range.Goals as goal

pub loop-index-preserved : goal.loop-index-preserved
loop-index-preserved c = ranged_more c.args.sets.now c.args.ranges.now c.args.range.now c.loop-index.index
    c.index-sets-index.result c.index-ranges-index.result _ _ c.loop-index-test.true c.index-sets-index.is
    c.index-ranges-index.is c.loop-index.invariant c.in_ok-add_if_ranged.ensures

pub returns : goal.returns
returns c = ranged_all c.args.sets.now c.args.ranges.now c.args.range.now c.loop-index.index _
    (omega (arith, c.loop-index-test.false)) c.loop-index.invariant
