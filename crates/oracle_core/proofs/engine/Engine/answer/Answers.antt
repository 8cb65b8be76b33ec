use Rattle.framework_solver.specs.SteppingLaws.{goes_on_none}
use Rattle.oracle_core.proofs.engine.Engine.answer.Goals as goal

pub returns-in_err-query_fits-clause-steps : goal.returns-in_err-query_fits-clause-steps
returns-in_err-query_fits-clause-steps g c = λ other.
    let a = c.args.self.now in goes_on_none a.framework a.number (g.T.ClauseTrade.gave c.args.trade.now) a.log

pub returns-in-Some-clause-steps : goal.returns-in-Some-clause-steps
returns-in-Some-clause-steps g c = λ other.
    let a = c.args.self.now in goes_on_none a.framework a.number (g.T.ClauseTrade.gave c.args.trade.now) a.log

pub returns-in_err-query_fits-clause-follows : goal.returns-in_err-query_fits-clause-follows
returns-in_err-query_fits-clause-follows g c = g.met.T.ClauseTrade.stays c.args.trade.now

pub returns-in-Some-clause-follows : goal.returns-in-Some-clause-follows
returns-in-Some-clause-follows g c = g.met.T.ClauseTrade.stays c.args.trade.now

pub returns-in_err-answered-clause-follows : goal.returns-in_err-answered-clause-follows
returns-in_err-answered-clause-follows g c = g.met.T.ClauseTrade.stays c.args.trade.now
