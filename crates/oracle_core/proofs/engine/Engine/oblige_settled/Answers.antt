use Rattle.std.proofs.Common.{ap, refl}
use Rattle.edit_rules.specs.Kinds.{framework_of}
use Rattle.oracle_face.specs.Growing.{OnlySide}
use Rattle.oracle_core.specs.Engines.{engine_state}
use Rattle.oracle_core.proofs.TradeLemmas.{called_trades}
use Rattle.oracle_core.proofs.engine.Engine.oblige_settled.Goals as goal

pub returns-clause-trades : goal.returns-clause-trades
returns-clause-trades c = rw (← c.self.view_is) (λ left gave.
    let own = c.self.inside.number in
    let parts = c.oblige_settled.new.self in
    called_trades (OnlySide c.args.side.now c.args.from.now) (engine_state own c.self.inside.parts)
    (engine_state own parts) left gave c.args.out_of_memory.now c.oblige_settled.new.out_of_memory refl
    (ap framework_of c.oblige_settled.ensures.framework) c.oblige_settled.ensures.run.grows
    c.oblige_settled.ensures.kept
    (λ so. c.oblige_settled.ensures.steps own))
