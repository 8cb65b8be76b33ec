use Rattle.std.proofs.Common.{sym, subst}
use Rattle.plain_lits.specs.Units.{Units}
use Rattle.oracle_face.specs.Growing.{HasRun, NoSide, halt_of}
use Rattle.oracle_core.specs.Engines.{EngineState}
use Rattle.oracle_core.specs.Trading.{Trades}
use Rattle.oracle_core.proofs.TradeLemmas.{run_forgotten, trades_forgotten}
use Rattle.oracle_core.proofs.engine.Engine.prepare.Goals as goal

pub returns-clause-trades : goal.returns-clause-trades
returns-clause-trades g c =
    let a = c.args.self.now in
    let b = c.force_and_take-end.new.self in
    let left = g.T.ClauseTrade.left c.args.trade.now in
    let later = g.T.ClauseTrade.left c.force_and_take-end.new.trade in
    let gave = g.T.ClauseTrade.gave c.args.trade.now in
    let gave_later = g.T.ClauseTrade.gave c.force_and_take-end.new.trade in
    subst (λ (e : EngineState). Trades a e left later gave gave_later c.args.out_of_memory.now
    c.force_and_take-end.new.out_of_memory)
    (sym c.forget.ensures.forgotten)
    (trades_forgotten a b left later gave gave_later c.args.out_of_memory.now c.force_and_take-end.new.out_of_memory
    c.force_and_take-end.ensures.trades)

pub returns-clause-run : goal.returns-clause-run
returns-clause-run g c = λ (units : Units).
    let a = c.args.self.now in
    let b = c.force_and_take-end.new.self in
    let halt = halt_of c.force_and_take-end.result in
    subst (λ (e : EngineState). HasRun NoSide 0 a.framework a.log e.log e.pending units units halt)
    (sym c.forget.ensures.forgotten)
    (run_forgotten a.framework a.log b.log b.pending halt c.force_and_take-end.ensures.run units)
