use Rattle.marked_sets.proofs.UnattackedLemmas.{first_none, first_more, first_all}
use Rattle.marked_sets.proofs.arguments.unattacked.Goals as goal

pub loop-argument-init : goal.loop-argument-init
loop-argument-init c = first_none c.args.plain.now c.args.plain.now.live c.new-found.result.items
    c.new-found.ensures.items

pub loop-argument-preserved : goal.loop-argument-preserved
loop-argument-preserved c = first_more c.args.plain.now c.args.plain.now.live c.loop-argument.argument-index _ _
    (rw c.live-argument-items.ensures.value at c.loop-argument-test.true) c.loop-argument.invariant
    (rw c.live-argument-items.ensures.value at c.in_ok-add_if_unattacked.ensures)

pub returns : goal.returns
returns c = first_all c.args.plain.now c.loop-argument.argument-index _
    (rw c.live-argument-items.ensures.value at c.loop-argument-test.false) c.loop-argument.invariant
