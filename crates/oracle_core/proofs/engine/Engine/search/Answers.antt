use Rattle.std.proofs.Common.{◌≡◌, ◌+◌, ◌*◌, rules, sym, subst, false, length, Option, Some}
use Rattle.plain_lits.specs.declared.halt.Halt.TheVariants.{Memory}
use Rattle.oracle_face.specs.Growing.{HasRun, halt_of}
use Rattle.oracle_face.specs.declared.face.Pending.{Pending}
use Rattle.session_log.specs.Ends.{LoopInHand, MadeFor}
use Rattle.oracle_core.specs.Engines.{EngineState}
use Rattle.framework_solver.specs.Stepping.{GoesOnBySteps}
use Rattle.oracle_core.specs.Trading.{IsEmptied, TakesFrom}
use Rattle.oracle_core.specs.TradingLaws.{trades_joined}
use Rattle.oracle_core.proofs.TradeLemmas.{emptied_later, not_memory, ok_so, only_prepared, run_out_of_memory, searched}
use Rattle.oracle_core.proofs.TradeLemmas.{serves_at}
use Rattle.oracle_core.proofs.engine.Engine.search.Goals as goal

pub returns-in_err-prepare-clause-run : goal.returns-in_err-prepare-clause-run
returns-in_err-prepare-clause-run g c =
    let a = c.args.self.now in
    only_prepared a.framework c.args.query.now a.log c.prepare.new.self.log c.prepare.new.self.pending c.args.budget.now
    c.args.budget.now c.from_residual.result c.in_err-prepare.field-0.0 c.from_residual.ensures
    (c.in_err-prepare.ensures.run c.args.budget.now)

pub returns-in_err-prepare-clause-trade : goal.returns-in_err-prepare-clause-trade
returns-in_err-prepare-clause-trade g c = λ other waiting is.
    c.in_err-prepare.ensures.trades.taken
    (c.in_err-prepare.ensures.only_out_of_memory
    (not_memory c.from_residual.result c.in_err-prepare.field-0.0 c.from_residual.ensures other)) waiting is

pub returns-then-trading-clause-run : goal.returns-then-trading-clause-run
returns-then-trading-clause-run g c =
    let a = c.args.self.now in
    let b = c.prepare.new.self in
    let o = c.answer-end.new.oracle in
    let is : c.self-1.given.0 ≡ o.engine.now = search rules in
    subst (λ (e : EngineState). HasRun (MadeFor a.framework c.args.query.now) (2 * length e.log.sides + 2) a.framework
    a.log e.log e.pending c.args.budget.now c.answer-end.new.budget (Some Memory)) (sym is)
    (run_out_of_memory (MadeFor a.framework c.args.query.now) (2 * length o.engine.now.log.sides + 2) a.framework a.log
    o.engine.now.log o.engine.now.pending c.args.budget.now c.answer-end.new.budget (halt_of c.answer-end.result)
    (searched a.framework b.framework c.args.query.now a.log b.log o.engine.now.log b.pending o.engine.now.pending
    c.args.budget.now c.answer-end.new.budget (halt_of c.answer-end.result) c.in_ok-prepare.ensures.trades.framework
    (c.in_ok-prepare.ensures.run c.args.budget.now) c.answer-end.ensures.run))

pub returns-clause-run : goal.returns-clause-run
returns-clause-run g c =
    let a = c.args.self.now in
    let b = c.prepare.new.self in
    let o = c.answer-end.new.oracle in
    let is : c.self-1.given.0 ≡ o.engine.now = search rules in
    subst (λ (e : EngineState). HasRun (MadeFor a.framework c.args.query.now) (2 * length e.log.sides + 2) a.framework
    a.log e.log e.pending c.args.budget.now c.answer-end.new.budget (halt_of c.answer-end.result)) (sym is)
    (searched a.framework b.framework c.args.query.now a.log b.log o.engine.now.log b.pending o.engine.now.pending
    c.args.budget.now c.answer-end.new.budget (halt_of c.answer-end.result) c.in_ok-prepare.ensures.trades.framework
    (c.in_ok-prepare.ensures.run c.args.budget.now) c.answer-end.ensures.run)

pub returns-clause-trade : goal.returns-clause-trade
returns-clause-trade g c = λ other waiting here.
    let a = c.args.self.now in
    let b = c.prepare.new.self in
    let o = c.answer-end.new.oracle in
    let is : c.self-1.given.0 ≡ o.engine.now = search rules in
    let is' : c.trade-1.given.0 ≡ o.trade.now = search rules in
    let all = trades_joined a b o.engine.now (g.T.ClauseTrade.left c.args.trade.now)
    (g.T.ClauseTrade.left c.prepare.new.trade) (g.T.ClauseTrade.left o.trade.now)
    (g.T.ClauseTrade.gave c.args.trade.now) (g.T.ClauseTrade.gave c.prepare.new.trade)
    (g.T.ClauseTrade.gave o.trade.now) false c.prepare.new.out_of_memory o.out_of_memory c.in_ok-prepare.ensures.trades
    c.answer-end.ensures.follows.2 in
    subst (λ (e : EngineState). TakesFrom a.framework a.number waiting (g.T.ClauseTrade.left c.trade-1.given.0) a.log
    e.log)
    (sym is)
    (subst (λ t. TakesFrom a.framework a.number waiting (g.T.ClauseTrade.left t) a.log o.engine.now.log) (sym is')
    (all.taken c.if-trading.false waiting here))

pub returns-clause-emptied : goal.returns-clause-emptied
returns-clause-emptied g c =
    let b = c.prepare.new.self in
    let o = c.answer-end.new.oracle in
    let is' : c.trade-1.given.0 ≡ o.trade.now = search rules in
    ok_so c.answer-end.result (λ waiting here.
    subst (λ t. IsEmptied waiting (g.T.ClauseTrade.left t)) (sym is')
    (emptied_later b.framework b.number waiting (g.T.ClauseTrade.left c.prepare.new.trade)
    (g.T.ClauseTrade.left o.trade.now) b.log o.engine.now.log (c.in_ok-prepare.ensures.all waiting here)
    (λ rest left. c.answer-end.ensures.follows.2.taken c.if-trading.false rest left)))

pub returns-in_err-prepare-clause-steps : goal.returns-in_err-prepare-clause-steps
returns-in_err-prepare-clause-steps g c = λ other.
    c.in_err-prepare.ensures.trades.stepped
    (c.in_err-prepare.ensures.only_out_of_memory
    (not_memory c.from_residual.result c.in_err-prepare.field-0.0 c.from_residual.ensures other))

pub returns-in_err-prepare-clause-in_hand : goal.returns-in_err-prepare-clause-in_hand
returns-in_err-prepare-clause-in_hand g c =
    subst (λ (p : Option Pending). LoopInHand c.prepare.new.self.log p) (sym c.in_err-prepare.ensures.pending) tt

pub returns-then-trading-clause-in_hand : goal.returns-then-trading-clause-in_hand
returns-then-trading-clause-in_hand g c =
    let b = c.prepare.new.self in
    let o = c.answer-end.new.oracle in
    let is : c.self-1.given.0 ≡ o.engine.now = search rules in
    subst (λ (e : EngineState). LoopInHand e.log e.pending) (sym is)
    (serves_at b o.engine.now c.in_ok-prepare.ensures.pending c.answer-end.ensures.follows.3)

pub returns-clause-steps : goal.returns-clause-steps
returns-clause-steps g c = λ other.
    let a = c.args.self.now in
    let b = c.prepare.new.self in
    let o = c.answer-end.new.oracle in
    let is : c.self-1.given.0 ≡ o.engine.now = search rules in
    let is' : c.trade-1.given.0 ≡ o.trade.now = search rules in
    let all = trades_joined a b o.engine.now (g.T.ClauseTrade.left c.args.trade.now)
    (g.T.ClauseTrade.left c.prepare.new.trade) (g.T.ClauseTrade.left o.trade.now)
    (g.T.ClauseTrade.gave c.args.trade.now) (g.T.ClauseTrade.gave c.prepare.new.trade)
    (g.T.ClauseTrade.gave o.trade.now) false c.prepare.new.out_of_memory o.out_of_memory c.in_ok-prepare.ensures.trades
    c.answer-end.ensures.follows.2 in
    subst (λ (e : EngineState). GoesOnBySteps a.framework a.number (g.T.ClauseTrade.gave c.trade-1.given.0) a.log e.log)
    (sym is)
    (subst (λ t. GoesOnBySteps a.framework a.number (g.T.ClauseTrade.gave t) a.log o.engine.now.log) (sym is')
    (all.stepped c.if-trading.false))

pub returns-then-trading-clause-follows : goal.returns-then-trading-clause-follows
returns-then-trading-clause-follows g c =
    let o = c.answer-end.new.oracle in
    let is' : c.trade-1.given.0 ≡ o.trade.now = search rules in
    subst (g.T.ClauseTrade.follows c.args.trade.now) (sym is')
    (g.met.T.ClauseTrade.joins c.args.trade.now c.prepare.new.trade o.trade.now c.in_ok-prepare.ensures.follows
    c.answer-end.ensures.follows.4)

pub returns-clause-follows : goal.returns-clause-follows
returns-clause-follows g c =
    let o = c.answer-end.new.oracle in
    let is' : c.trade-1.given.0 ≡ o.trade.now = search rules in
    subst (g.T.ClauseTrade.follows c.args.trade.now) (sym is')
    (g.met.T.ClauseTrade.joins c.args.trade.now c.prepare.new.trade o.trade.now c.in_ok-prepare.ensures.follows
    c.answer-end.ensures.follows.4)

pub returns-clause-in_hand : goal.returns-clause-in_hand
returns-clause-in_hand g c =
    let b = c.prepare.new.self in
    let o = c.answer-end.new.oracle in
    let is : c.self-1.given.0 ≡ o.engine.now = search rules in
    subst (λ (e : EngineState). LoopInHand e.log e.pending) (sym is)
    (serves_at b o.engine.now c.in_ok-prepare.ensures.pending c.answer-end.ensures.follows.3)
