use Rattle.core_logs.proofs.LiteralTests.{one_sided_affirmed, one_sided_members, one_sided_neither}
use Rattle.core_logs.proofs.literals.is_one_sided.Goals as goal

pub returns-then-all_affirm : goal.returns-then-all_affirm
returns-then-all_affirm c = one_sided_affirmed _ c.args.clause.now c.all_affirm.ensures c.if-all_affirm.true

pub returns-then-all_are_members : goal.returns-then-all_are_members
returns-then-all_are_members c =
    one_sided_members _ _ c.is_tautology.result c.args.clause.now c.all_affirm.ensures c.if-all_affirm.false
    c.all_are_members.ensures c.if-all_are_members.true c.is_tautology.ensures

pub returns-else-all_are_members : goal.returns-else-all_are_members
returns-else-all_are_members c =
    one_sided_neither _ _ c.args.clause.now c.all_affirm.ensures c.if-all_affirm.false c.all_are_members.ensures
    c.if-all_are_members.false
