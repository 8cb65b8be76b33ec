use Rattle.answer_claims.proofs.ClaimLemmas.{first_claims_more, first_claims_all}
use Rattle.answer_claims.proofs.claims.first_claims.Goals as goal

pub loop-index-init : goal.loop-index-init
loop-index-init c = λ f is same. rw c.as_slice-sets.ensures at (c.in_ok-list.ensures f)

pub loop-index-preserved : goal.loop-index-preserved
loop-index-preserved c =
    first_claims_more c.args.mode c.args.all.now c.args.ranges.now c.args.first.now c.loop-index.index c.index-sets-index.result
    c.index-own-index.result _ _ _ _ _ c.as_slice-sets.ensures c.as_slice-own.ensures c.loop-index-test.true
    c.index-sets-index.is c.index-own-index.is c.in_ok-listed.ensures c.loop-index.invariant c.in_ok-push.ensures.ok

pub returns : goal.returns
returns c =
    first_claims_all c.args.mode c.args.all.now c.args.ranges.now c.args.first.now c.loop-index.index _
    (rw c.as_slice-sets.ensures at c.loop-index-test.false) c.loop-index.invariant
