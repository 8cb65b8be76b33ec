use Rattle.std.proofs.Common.{not}
use Rattle.certificate_claims.specs.SetLiterals.{has}
use Rattle.answer_claims.proofs.SideLemmas.{filtered_more}
use Rattle.answer_claims.proofs.sides.numbers_outside.Goals as goal

pub loop-number-preserved : goal.loop-number-preserved
loop-number-preserved c =
    filtered_more (λ x. not (has c.args.set.now x)) _ _ _ c.loop-number.number-index c.loop-number-test.true
    c.loop-number.invariant c.in_ok-add_if_lacking.ensures
