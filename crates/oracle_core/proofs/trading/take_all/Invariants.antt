use Rattle.std.specs.Prelude.{◌-◌}
use Rattle.oracle_core.specs.declared.trading.TheConstants.{MAX_TAKEN}
use Rattle.oracle_core.proofs.EntriesTaken.{IsTaking}
use Rattle.oracle_core.proofs.trading.take_all.Given as goal

abbrev pub invariant-loop-count : goal.invariant-loop-count
invariant-loop-count g l =
    IsTaking l.own l.fn.parts l.parts (g.T.ClauseTrade.left l.fn.trade) (g.T.ClauseTrade.left l.trade)
    (g.T.ClauseTrade.gave l.fn.trade) (g.T.ClauseTrade.gave l.trade) l.count
    × g.T.ClauseTrade.follows l.fn.trade l.trade

abbrev pub decreases-loop-count : goal.decreases-loop-count
decreases-loop-count g l = MAX_TAKEN - l.count
