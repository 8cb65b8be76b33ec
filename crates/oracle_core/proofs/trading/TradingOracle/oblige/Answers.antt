use Rattle.std.proofs.Common.{inl, refl}
use Rattle.oracle_core.proofs.trading.TradingOracle.oblige.Goals as goal

pub returns-clause-framework : goal.returns-clause-framework
returns-clause-framework g c =
    (c.oblige_settled.ensures.trades (g.T.ClauseTrade.left c.args.self.now.trade.now)
    (g.T.ClauseTrade.gave c.args.self.now.trade.now)).framework

pub returns-clause-follows : goal.returns-clause-follows
returns-clause-follows g c = (
  refl,
  refl,
  c.oblige_settled.ensures.trades (g.T.ClauseTrade.left c.args.self.now.trade.now)
      (g.T.ClauseTrade.gave c.args.self.now.trade.now),
  inl c.oblige_settled.ensures.in_hand,
  g.met.T.ClauseTrade.stays c.args.self.now.trade.now,
)
