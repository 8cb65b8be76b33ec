use Rattle.std.proofs.lemmas.Result.{IfOk-weaker}
use Rattle.dung_notions.proofs.RangeLemmas.{range_more, range_all}
use Rattle.dung_notions.proofs.af_plain.AfPlain.range_of.Goals as goal

pub loop-member-preserved : goal.loop-member-preserved
loop-member-preserved c = range_more c.args.self.now c.args.set.now c.loop-member.member-index _ _
    (rw c.as_slice-member-items.ensures.value at c.loop-member-test.true)
    c.loop-member.invariant (rw c.as_slice-member-items.ensures.value at c.in_ok-add_targets.ensures)

pub returns : goal.returns
returns c = IfOk-weaker c.from_slice-2.result _ _
    (λ s set. range_all c.args.self.now c.args.set.now c.loop-member.member-index _ s
    (rw c.as_slice-member-items.ensures.value at c.loop-member-test.false)
    c.loop-member.invariant (rw c.deref.ensures.value at set)) c.from_slice-2.ensures
