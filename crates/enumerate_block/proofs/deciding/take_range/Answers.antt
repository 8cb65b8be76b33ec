use Rattle.std.proofs.Common.{arith}
use Rattle.goal_lists.proofs.RunLemmas.{ran_handed, ran_lost}
use Rattle.enumerate_block.proofs.deciding.take_range.Goals as goal

pub returns-in_err-ask-clause-ran : goal.returns-in_err-ask-clause-ran
returns-in_err-ask-clause-ran g c = ran_handed _ c.from_residual.ensures c.in_err-ask.ensures.ran

pub returns-in_err-push-clause-ran : goal.returns-in_err-push-clause-ran
returns-in_err-push-clause-ran g c =
    ran_lost _ c.from_residual-in_err-push.ensures (omega arith) c.in_ok-ask.ensures.ran

pub returns-in_err-push-2-clause-ran : goal.returns-in_err-push-2-clause-ran
returns-in_err-push-2-clause-ran g c =
    ran_lost _ c.from_residual-in_err-push-2.ensures (omega arith) c.in_ok-ask.ensures.ran

pub returns-in_err-push-3-clause-ran : goal.returns-in_err-push-3-clause-ran
returns-in_err-push-3-clause-ran g c =
    ran_lost _ c.from_residual-in_err-push-3.ensures (omega arith) c.in_ok-ask.ensures.ran

pub returns-clause-ran : goal.returns-clause-ran
returns-clause-ran g c = c.in_ok-ask.ensures.ran
