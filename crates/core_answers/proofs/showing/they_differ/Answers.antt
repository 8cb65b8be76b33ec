use Rattle.std.proofs.Common.{arith, refl}
use Rattle.std.proofs.lemmas.Bool.{false≢true}
use Rattle.core_answers.proofs.DifferLemmas.{comes_twice, differs_next}
use Rattle.core_answers.proofs.showing.they_differ.Goals as goal

pub returns-then-again : goal.returns-then-again
returns-then-again c = (
  λ t. absurd (false≢true t),
  λ all. absurd (comes_twice c.args.sets.now c.loop-index.index c.index-sets-index.result c.loop-index-test.true
      c.index-sets-index.is (c.if-again.ensures.0 refl) all),
)

pub loop-index-preserved : goal.loop-index-preserved
loop-index-preserved c = differs_next c.args.sets.now c.loop-index.index c.index-sets-index.result
    c.loop-index-test.true
    c.index-sets-index.is (λ there. false≢true (c.if-again.ensures.1 there)) c.loop-index.invariant

pub returns : goal.returns
returns c = (λ t i j less lt. c.loop-index.invariant i j less (omega (arith, lt, c.loop-index-test.false)), λ all. refl)
