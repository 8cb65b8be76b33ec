use Rattle.marked_sets.proofs.MarkLemmas.{room_for, seconds_none, seconds_more, seconds_all}
use Rattle.marked_sets.proofs.arguments.mark_targets.Goals as goal

pub loop-pair-init : goal.loop-pair-init
loop-pair-init c = seconds_none _ _

pub mark-requires : goal.mark-requires
mark-requires c = room_for c.args.plain.now c.args.argument c.targets_of-targets.result.now c.loop-pair.pair-index _ _
    c.targets_of-targets.ensures c.requires c.loop-pair-test.true c.loop-pair.invariant

pub loop-pair-preserved : goal.loop-pair-preserved
loop-pair-preserved c = rw c.mark.ensures (seconds_more c.targets_of-targets.result.now c.loop-pair.pair-index _ _
    c.loop-pair-test.true
    (room_for c.args.plain.now c.args.argument c.targets_of-targets.result.now c.loop-pair.pair-index _ _
    c.targets_of-targets.ensures c.requires c.loop-pair-test.true c.loop-pair.invariant)
    c.loop-pair.invariant)

pub returns : goal.returns
returns c = seconds_all c.args.plain.now c.args.argument c.targets_of-targets.result.now c.loop-pair.pair-index _ _
    c.targets_of-targets.ensures c.loop-pair-test.false c.loop-pair.invariant
