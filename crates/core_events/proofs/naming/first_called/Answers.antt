use Rattle.core_events.proofs.NamingLemmas.{called_first}
use Rattle.core_events.proofs.naming.first_called.Goals as goal

pub returns-then-is_called_at : goal.returns-then-is_called_at
returns-then-is_called_at c =
    called_first c.args.own c.args.steps.now c.args.name.now c.loop-before.before c.new-number.result
    c.new-number.ensures c.loop-before.invariant (c.is_called_at.ensures.0 c.if-is_called_at.true)
