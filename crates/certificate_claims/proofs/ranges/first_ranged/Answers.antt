use Rattle.iccma_tasks.specs.semantics.specs.Frameworks.{af}
use Rattle.certificate_claims.proofs.RangeLists.{first_more, live_at}
use Rattle.certificate_claims.proofs.ranges.first_ranged.Goals as goal

pub add_if_first-requires : goal.add_if_first-requires
add_if_first-requires c = live_at c.args.plain.now c.args.sets.now c.loop-set.set-index c.set-item.result
    c.loop-set-test.true c.set-item.is c.requires

pub loop-set-preserved : goal.loop-set-preserved
loop-set-preserved c = first_more (af c.args.plain.now) c.args.sets.now c.loop-set.set-index c.set-item.result _ _
    c.loop-set-test.true c.set-item.is c.loop-set.invariant c.in_ok-add_if_first.ensures
