use Rattle.core_logs.proofs.NewTests.{follow_used, follows_is, none_follows, ok_carried}
use Rattle.core_logs.proofs.checking.follows.Goals as goal

pub returns-then-not-are_used : goal.returns-then-not-are_used
returns-then-not-are_used c =
    none_follows _ c.are_used.ensures c.if-not-are_used.true
    (follow_used c.args.steps.now c.args.clause.now c.args.hints.now)

pub returns : goal.returns
returns c =
    ok_carried c.is_taken.result c.is_taken.ensures
    (λ b h. follows_is c.are_kept.result c.are_used.result c.all_come.result b c.args.steps.now c.args.clause.now
    c.args.hints.now c.are_kept.ensures c.if-not-are_kept.false c.are_used.ensures c.if-not-are_used.false c.all_come.ensures
    c.if-not-all_come.false h)
