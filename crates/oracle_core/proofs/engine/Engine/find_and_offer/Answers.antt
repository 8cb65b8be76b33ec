use Rattle.std.proofs.Common.{ap, refl}
use Rattle.edit_rules.specs.Kinds.{framework_of}
use Rattle.oracle_face.specs.Growing.{NoSide}
use Rattle.oracle_core.specs.Engines.{engine_state}
use Rattle.oracle_core.proofs.TradeLemmas.{offered_trades}
use Rattle.oracle_core.proofs.engine.Engine.find_and_offer.Goals as goal

pub returns-clause-trades : goal.returns-clause-trades
returns-clause-trades g c = rw (← c.self.view_is) (
    let own = c.self.inside.number in
    let parts = c.find_settled-end.new.self in
    let left = g.T.ClauseTrade.left c.args.trade.now in
    let later = g.T.ClauseTrade.left c.offer_from-self-inside.new.trade in
    let gave = g.T.ClauseTrade.gave c.args.trade.now in
    let gave_later = g.T.ClauseTrade.gave c.offer_from-self-inside.new.trade in
    offered_trades NoSide (engine_state own c.self.inside.parts) (engine_state own parts) left later gave gave_later
    c.args.out_of_memory.now c.find_settled-end.new.out_of_memory c.offer_from-self-inside.ensures.left
    c.offer_from-self-inside.ensures.gave refl
    (ap framework_of c.find_settled-end.ensures.framework) c.find_settled-end.ensures.run.grows
    c.find_settled-end.ensures.kept (λ so. c.find_settled-end.ensures.steps so own))
