use Rattle.core_logs.proofs.LiteralTests.{one_kind_all, one_kind_none}
use Rattle.core_logs.proofs.literals.is_of_one_kind.Goals as goal

pub returns-then-none_hit : goal.returns-then-none_hit
returns-then-none_hit c = one_kind_none _ c.args.clause.now c.none_hit.ensures c.if-none_hit.true

pub returns-else-none_hit : goal.returns-else-none_hit
returns-else-none_hit c =
    one_kind_all _ _ c.args.clause.now c.none_hit.ensures c.if-none_hit.false c.all_hit.ensures
