use Rattle.ideal_set.proofs.RoundLemmas.{ends_all, ends_more, ends_none}
use Rattle.ideal_set.proofs.part.attacks_round.Goals as goal

pub loop-member-init : goal.loop-member-init
loop-member-init c = rw c.new-found.ensures.items (ends_none c.args.plain.now c.args.set.now)

pub loop-member-preserved : goal.loop-member-preserved
loop-member-preserved c =
    ends_more c.args.plain.now c.args.set.now c.loop-member.member-index _ _
    (rw c.as_slice-member-items.ensures.value at c.loop-member-test.true) c.loop-member.invariant
    (rw c.as_slice-member-items.ensures.value at c.in_ok-add_attacks_of.ensures)

pub returns : goal.returns
returns c =
    ends_all c.args.plain.now c.args.set.now c.loop-member.member-index _
    (rw c.as_slice-member-items.ensures.value at c.loop-member-test.false) c.loop-member.invariant
