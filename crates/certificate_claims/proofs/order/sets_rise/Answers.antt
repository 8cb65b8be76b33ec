use Rattle.std.proofs.Common.{arith, refl}
use Rattle.certificate_claims.proofs.OrderLemmas.{rise_one, rise_all, falls}
use Rattle.certificate_claims.proofs.order.sets_rise.Goals as goal

pub loop-index-init : goal.loop-index-init
loop-index-init c = (rise_one c.args.sets.now, omega arith)

pub returns-then-not-before : goal.returns-then-not-before
returns-then-not-before c = (
  λ h. absurd (cc),
  λ rise. absurd (falls c.args.sets.now c.loop-index.index c.index-sets-index.result
      c.index-sets-index-in-loop-index.result c.comes_before-before.result c.loop-index.invariant.1
      c.loop-index-test.true c.index-sets-index.is c.index-sets-index-in-loop-index.is c.if-not-before.true
      c.comes_before-before.ensures rise),
)

pub returns : goal.returns
returns c = (
  λ h. rise_all c.args.sets.now c.loop-index.index c.loop-index-test.false c.loop-index.invariant.0,
  λ rise. refl,
)
