use Rattle.std.proofs.Common.{arith}
use Rattle.edit_rules.specs.Kinds.{framework_of}
use Rattle.answer_claims.proofs.HitLemmas.{sets_none, sets_more, sets_all}
use Rattle.answer_claims.proofs.hits.all_attacked.Goals as goal

pub loop-index-init : goal.loop-index-init
loop-index-init c = rw c.new-found.ensures.items (sets_none (framework_of c.args.tests.now.framework.now))

pub loop-index-preserved : goal.loop-index-preserved
loop-index-preserved c = sets_more (framework_of c.args.tests.now.framework.now) c.args.sets.now c.loop-index.index _ _ _
    c.loop-index-test.true c.index-sets-index.is c.loop-index.invariant c.in_ok-add_attacked.ensures

pub returns : goal.returns
returns c =
    let is = rw c.deref.ensures.value at c.in_ok-hit.ensures in
    sets_all (framework_of c.args.tests.now.framework.now) c.args.sets.now c.loop-index.index _ _
    (omega (arith, c.loop-index-test.false)) c.loop-index.invariant is.members
