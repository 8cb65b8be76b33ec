use Rattle.marked_sets.proofs.MarkLemmas.{members_none, members_more, members_all}
use Rattle.marked_sets.proofs.arguments.mark_attacked.Goals as goal

pub loop-member-init : goal.loop-member-init
loop-member-init c = members_none c.args.plain.now c.args.set.now c.bound_of.result _ c.bound_of.ensures.form
    c.bound_of.ensures.above c.in_ok-clear.ensures

pub mark_targets-requires : goal.mark_targets-requires
mark_targets-requires c = c.loop-member.invariant.room

pub loop-member-preserved : goal.loop-member-preserved
loop-member-preserved c = members_more c.args.plain.now c.args.set.now c.loop-member.member-index _ _
    (rw c.as_slice-member-items.ensures.value at c.loop-member-test.true) c.loop-member.invariant
    (rw c.as_slice-member-items.ensures.value at c.mark_targets.ensures)

pub returns : goal.returns
returns c = members_all c.args.plain.now c.args.set.now c.loop-member.member-index _
    (rw c.as_slice-member-items.ensures.value at c.loop-member-test.false) c.loop-member.invariant
