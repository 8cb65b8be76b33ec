use Rattle.set_tests.proofs.AttackLemmas.{attacked_none, attacked_more, attacked_all}
use Rattle.set_tests.proofs.attacks.add_targets_of.Goals as goal

pub loop-member-init : goal.loop-member-init
loop-member-init c = attacked_none _ _

pub loop-member-preserved : goal.loop-member-preserved
loop-member-preserved c = attacked_more c.args.plain.now c.args.set.now c.loop-member.member-index _ _ _
    (rw c.as_slice-member-items.ensures.value at c.loop-member-test.true)
    c.loop-member.invariant (rw c.as_slice-member-items.ensures.value at c.in_ok-add_targets.ensures)

pub returns : goal.returns
returns c = attacked_all c.args.plain.now c.args.set.now c.loop-member.member-index _ _
    (rw c.as_slice-member-items.ensures.value at c.loop-member-test.false) c.loop-member.invariant
