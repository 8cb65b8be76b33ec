use Rattle.std.proofs.Common.{inl, refl}
use Rattle.oracle_face.specs.Growing.{closes, halt_of}
use Rattle.oracle_core.specs.TradingLaws.{trades_joined}
use Rattle.framework_solver.proofs.Joining.{forced_then, goals_still, halted}
use Rattle.oracle_core.proofs.trading.TradingOracle.find.Goals as goal

pub returns-in_err-prepare-clause-run : goal.returns-in_err-prepare-clause-run
returns-in_err-prepare-clause-run g c =
    let a = c.args.self.now.engine.now in
    halted a.framework a.log c.prepare.new.self.log c.prepare.new.self.pending c.args.budget.now c.args.budget.now
    c.from_residual.result c.in_err-prepare.field-0.0 c.from_residual.ensures
    (c.in_err-prepare.ensures.run c.args.budget.now)

pub find_and_offer-requires-2 : goal.find_and_offer-requires-2
find_and_offer-requires-2 g c =
    let a = c.args.self.now.engine.now in
    goals_still a.framework c.prepare.new.self.framework a.log c.prepare.new.self.log c.args.goals.now
    (c.in_ok-prepare.ensures.run c.args.budget.now).grows c.in_ok-prepare.ensures.trades.framework c.requires

pub returns-clause-run : goal.returns-clause-run
returns-clause-run g c =
    let a = c.args.self.now.engine.now in
    let b = c.prepare.new.self in
    let d = c.find_and_offer-2.new.self in
    forced_then a.framework b.framework a.log b.log d.log b.pending d.pending c.args.budget.now
    c.find_and_offer-2.new.budget
    (closes c.find_and_offer-2.result) (halt_of c.find_and_offer-2.result) c.in_ok-prepare.ensures.trades.framework
    (c.in_ok-prepare.ensures.run c.args.budget.now) c.find_and_offer-2.ensures.run

pub returns-clause-follows : goal.returns-clause-follows
returns-clause-follows g c =
    let a = c.args.self.now.engine.now in
    let b = c.prepare.new.self in
    let d = c.find_and_offer-2.new.self in
    let left = g.T.ClauseTrade.left c.args.self.now.trade.now in
    let later = g.T.ClauseTrade.left c.prepare.new.trade in
    let gave = g.T.ClauseTrade.gave c.args.self.now.trade.now in
    let gave_later = g.T.ClauseTrade.gave c.prepare.new.trade in (
      refl,
      refl,
      trades_joined a b d left later (g.T.ClauseTrade.left c.find_and_offer-2.new.trade) gave gave_later
          (g.T.ClauseTrade.gave c.find_and_offer-2.new.trade)
          c.args.self.now.out_of_memory c.prepare.new.out_of_memory c.find_and_offer-2.new.out_of_memory
          c.in_ok-prepare.ensures.trades c.find_and_offer-2.ensures.trades,
      inl c.find_and_offer-2.ensures.in_hand,
      g.met.T.ClauseTrade.joins c.args.self.now.trade.now c.prepare.new.trade c.find_and_offer-2.new.trade
          c.in_ok-prepare.ensures.follows c.find_and_offer-2.ensures.follows,
    )
