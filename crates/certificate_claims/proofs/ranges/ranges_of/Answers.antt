use Rattle.iccma_tasks.specs.semantics.specs.Frameworks.{af}
use Rattle.certificate_claims.proofs.RangeLists.{live_at, ranges_more}
use Rattle.certificate_claims.proofs.ranges.ranges_of.Goals as goal

pub range_list-requires : goal.range_list-requires
range_list-requires c = live_at c.args.plain.now c.args.sets.now c.loop-set.set-index c.set-item.result
    c.loop-set-test.true c.set-item.is c.requires

pub loop-set-preserved : goal.loop-set-preserved
loop-set-preserved c = ranges_more (af c.args.plain.now) c.args.sets.now c.loop-set.set-index c.set-item.result
    c.in_ok-range.range _ _ c.loop-set-test.true c.set-item.is c.loop-set.invariant c.in_ok-range.ensures
    c.in_ok-push.ensures.ok
