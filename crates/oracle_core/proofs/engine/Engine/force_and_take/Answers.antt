use Rattle.std.proofs.Common.{sym, ◌∙◌, true, None}
use Rattle.plain_lits.specs.Units.{Units}
use Rattle.oracle_face.specs.Growing.{NoSide}
use Rattle.oracle_core.specs.TradingLaws.{trades_joined}
use Rattle.framework_solver.proofs.Joining.{forced_then, halted_any}
use Rattle.oracle_core.proofs.TradeLemmas.{all_trades, forced_trades, trades_out_of_memory, ok_of, run_out_of_memory}
use Rattle.oracle_core.proofs.engine.Engine.force_and_take.Goals as goal

abbrev no_units : Units
no_units = record { limit = 0; used = 0 }

pub returns-in_err-add_needed_axioms-clause-trades : goal.returns-in_err-add_needed_axioms-clause-trades
returns-in_err-add_needed_axioms-clause-trades g c =
    let a = c.args.self.now in
    let b = c.add_needed_axioms.new.self in
    forced_trades a b (g.T.ClauseTrade.left c.args.trade.now) (g.T.ClauseTrade.gave c.args.trade.now)
    c.args.out_of_memory.now
    c.in_err-add_needed_axioms.ensures.number
    c.in_err-add_needed_axioms.ensures.framework (c.in_err-add_needed_axioms.ensures.run no_units).grows
    c.in_err-add_needed_axioms.ensures.steps

pub returns-in_err-add_needed_axioms-clause-run : goal.returns-in_err-add_needed_axioms-clause-run
returns-in_err-add_needed_axioms-clause-run g c = λ units.
    halted_any c.args.self.now.framework c.args.self.now.log c.add_needed_axioms.new.self.log
    c.add_needed_axioms.new.self.pending units units
    c.from_residual.result c.in_err-add_needed_axioms.field-0.0 c.from_residual.ensures
    (c.in_err-add_needed_axioms.ensures.run units)

pub returns-then-is_err-clause-trades : goal.returns-then-is_err-clause-trades
returns-then-is_err-clause-trades g c =
    let a = c.args.self.now in
    let b = c.add_needed_axioms.new.self in
    let d = c.take_all-taken.new.self in
    let left = g.T.ClauseTrade.left c.args.trade.now in
    let later = g.T.ClauseTrade.left c.take_all-taken.new.trade in
    let gave = g.T.ClauseTrade.gave c.args.trade.now in
    let gave_new = g.T.ClauseTrade.gave c.take_all-taken.new.trade in
    trades_joined a b d left left later gave gave gave_new c.args.out_of_memory.now c.args.out_of_memory.now true
    (forced_trades a b left gave c.args.out_of_memory.now c.in_ok-add_needed_axioms.ensures.number
    c.in_ok-add_needed_axioms.ensures.framework
    (c.in_ok-add_needed_axioms.ensures.run no_units).grows c.in_ok-add_needed_axioms.ensures.steps)
    (trades_out_of_memory b d left later gave gave_new c.args.out_of_memory.now c.take_all-taken.ensures.number
    c.take_all-taken.ensures.framework (c.take_all-taken.ensures.run no_units).grows c.take_all-taken.ensures.gave)

pub returns-clause-run : goal.returns-clause-run
returns-clause-run g c = λ units.
    let a = c.args.self.now in
    let b = c.add_needed_axioms.new.self in
    let d = c.take_all-taken.new.self in
    forced_then a.framework b.framework a.log b.log d.log b.pending d.pending units units 0 None
    c.in_ok-add_needed_axioms.ensures.framework (c.in_ok-add_needed_axioms.ensures.run units)
    (c.take_all-taken.ensures.run units)

pub returns-then-is_err-clause-run : goal.returns-then-is_err-clause-run
returns-then-is_err-clause-run g c = λ units.
    let a = c.args.self.now in
    let b = c.add_needed_axioms.new.self in
    let d = c.take_all-taken.new.self in
    run_out_of_memory NoSide 0 a.framework a.log d.log d.pending units units None
    (forced_then a.framework b.framework a.log b.log d.log b.pending d.pending units units 0 None
    c.in_ok-add_needed_axioms.ensures.framework (c.in_ok-add_needed_axioms.ensures.run units)
    (c.take_all-taken.ensures.run units))

pub returns-clause-trades : goal.returns-clause-trades
returns-clause-trades g c =
    let a = c.args.self.now in
    let b = c.add_needed_axioms.new.self in
    let d = c.take_all-taken.new.self in
    let left = g.T.ClauseTrade.left c.args.trade.now in
    let later = g.T.ClauseTrade.left c.take_all-taken.new.trade in
    let gave = g.T.ClauseTrade.gave c.args.trade.now in
    let gave_new = g.T.ClauseTrade.gave c.take_all-taken.new.trade in
    trades_joined a b d left left later gave gave gave_new c.args.out_of_memory.now c.args.out_of_memory.now
    c.args.out_of_memory.now
    (forced_trades a b left gave c.args.out_of_memory.now c.in_ok-add_needed_axioms.ensures.number
    c.in_ok-add_needed_axioms.ensures.framework
    (c.in_ok-add_needed_axioms.ensures.run no_units).grows c.in_ok-add_needed_axioms.ensures.steps)
    (all_trades b d left later gave gave_new c.args.out_of_memory.now c.take_all-taken.ensures.number
    c.take_all-taken.ensures.framework (c.take_all-taken.ensures.run no_units).grows c.take_all-taken.ensures.gave
    c.take_all-taken.ensures.steps
    (ok_of c.take_all-taken.result (sym c.is_err.ensures.value ∙ c.if-is_err.false) c.take_all-taken.ensures.all))

pub returns-clause-all : goal.returns-clause-all
returns-clause-all g c = λ waiting is.
    (ok_of c.take_all-taken.result (sym c.is_err.ensures.value ∙ c.if-is_err.false) c.take_all-taken.ensures.all waiting
    is).emptied

pub returns-in_err-add_needed_axioms-clause-follows : goal.returns-in_err-add_needed_axioms-clause-follows
returns-in_err-add_needed_axioms-clause-follows g c = g.met.T.ClauseTrade.stays c.args.trade.now
