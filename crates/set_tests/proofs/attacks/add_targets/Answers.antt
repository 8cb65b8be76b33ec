use Rattle.dung_notions.proofs.RangeLemmas.{seconds_more, seconds_all}
use Rattle.set_tests.proofs.attacks.add_targets.Goals as goal

pub loop-pair-preserved : goal.loop-pair-preserved
loop-pair-preserved c = rw c.in_ok-push.ensures.items (seconds_more c.targets_of-targets.result.now
    c.loop-pair.pair-index _ _ c.loop-pair-test.true c.loop-pair.invariant)

pub returns : goal.returns
returns c = seconds_all c.args.plain.now c.args.argument c.targets_of-targets.result.now c.loop-pair.pair-index _ _
    c.targets_of-targets.ensures c.loop-pair-test.false c.loop-pair.invariant
