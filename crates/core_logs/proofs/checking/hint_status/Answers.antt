use Rattle.core_logs.proofs.HintTests.{hint_means}
use Rattle.core_logs.proofs.checking.hint_status.Goals as goal

pub returns : goal.returns
returns c =
    hint_means c.args.steps.now c.args.truths.now c.clause_at.result.now c.args.hint c.clause_status.result
    (c.is_number.ensures.0 c.if-not-is_number.false) c.clause_at.ensures c.clause_status.ensures
