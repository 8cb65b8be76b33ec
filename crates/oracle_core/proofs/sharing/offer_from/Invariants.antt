use Rattle.std.specs.Prelude.{◌-◌, length}
use Rattle.oracle_core.proofs.TradeLemmas.{HasOffered}
use Rattle.oracle_core.proofs.sharing.offer_from.Given as goal

abbrev pub invariant-loop-offered : goal.invariant-loop-offered
invariant-loop-offered g l =
    HasOffered (g.T.ClauseTrade.left l.fn.trade) (g.T.ClauseTrade.left l.trade) (g.T.ClauseTrade.gave l.fn.trade)
    (g.T.ClauseTrade.gave l.trade) (g.T.ClauseTrade.follows l.fn.trade l.trade)

abbrev pub decreases-loop-offered : goal.decreases-loop-offered
decreases-loop-offered g l = length l.parts.solver.log.steps - l.offered
