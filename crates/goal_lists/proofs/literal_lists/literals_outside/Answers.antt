use Rattle.std.proofs.Common.{not}
use Rattle.certificate_claims.specs.SetLiterals.{has}
use Rattle.certificate_claims.specs.Words.{literal_of}
use Rattle.goal_lists.proofs.Lacking.{said_more}
use Rattle.goal_lists.proofs.literal_lists.literals_outside.Goals as goal

pub loop-number-preserved : goal.loop-number-preserved
loop-number-preserved c =
    said_more (λ x. not (has c.args.set.now x)) (literal_of c.args.word) _ _ _ c.loop-number.number-index
    c.loop-number-test.true c.loop-number.invariant c.in_ok-push_if_lacking.ensures
