use Rattle.std.proofs.Common.{◌≡◌, rules, subst, sym, Ok, None}
use Rattle.oracle_face.specs.Trades.{GivesFirst, GivesMore}
use Rattle.edit_rules.specs.Kinds.{framework_of}
use mathlib.Core.List.{IsPrefix}
use Rattle.framework_solver.specs.Stepping.{GoesOnBySteps}
use Rattle.oracle_core.proofs.EntriesTaken.{gave_more, none_more, run_more, steps_more, taking_last, taking_more}
use Rattle.oracle_core.proofs.EntriesTaken.{taking_most, taking_none}
use Rattle.oracle_core.proofs.trading.take_all.Goals as goal

pub loop-count-init : goal.loop-count-init
loop-count-init g c = (
  taking_none c.args.own c.args.parts.now (g.T.ClauseTrade.left c.args.trade.now)
      (g.T.ClauseTrade.gave c.args.trade.now) c.requires.whole c.requires.in_force,
  g.met.T.ClauseTrade.stays c.args.trade.now,
)

pub returns-in_err-entry-clause-steps : goal.returns-in_err-entry-clause-steps
returns-in_err-entry-clause-steps g c =
    let p = c.args.parts.now in
    subst (λ entries. GoesOnBySteps (framework_of p.framework) c.args.own entries p.solver.log
    c.loop-count.parts.solver.log) (sym c.in_err-entry.ensures.gave) c.loop-count.invariant.0.steps

pub returns-in_err-entry-clause-gave : goal.returns-in_err-entry-clause-gave
returns-in_err-entry-clause-gave g c =
    subst (IsPrefix (g.T.ClauseTrade.gave c.args.trade.now)) (sym c.in_err-entry.ensures.gave)
    c.loop-count.invariant.0.more

pub returns-in_err-entry-clause-follows : goal.returns-in_err-entry-clause-follows
returns-in_err-entry-clause-follows g c =
    g.met.T.ClauseTrade.joins c.args.trade.now c.loop-count.trade c.take.new.self c.loop-count.invariant.1
    c.in_err-entry.ensures.follows

pub returns-in_default-clause-all : goal.returns-in_default-clause-all
returns-in_default-clause-all g c = λ waiting is.
    let none : c.in_ok-entry.field-0 ≡ None = search rules in
    taking_last c.args.own c.args.parts.now c.loop-count.parts (g.T.ClauseTrade.left c.args.trade.now)
    (g.T.ClauseTrade.left c.loop-count.trade) (g.T.ClauseTrade.left c.take.new.self)
    (g.T.ClauseTrade.gave c.args.trade.now) (g.T.ClauseTrade.gave c.loop-count.trade) c.loop-count.count
    c.loop-count.invariant.0
    (subst (λ taken. GivesFirst (g.T.ClauseTrade.left c.loop-count.trade) (Ok taken)
    (g.T.ClauseTrade.left c.take.new.self)) none c.in_ok-entry.ensures.first) waiting is

pub returns-in_default-clause-steps : goal.returns-in_default-clause-steps
returns-in_default-clause-steps g c =
    let p = c.args.parts.now in
    let none : c.in_ok-entry.field-0 ≡ None = search rules in
    let same = none_more (g.T.ClauseTrade.gave c.loop-count.trade) (g.T.ClauseTrade.gave c.take.new.self)
    c.in_ok-entry.field-0 none c.in_ok-entry.ensures.gave in
    subst (λ entries. GoesOnBySteps (framework_of p.framework) c.args.own entries p.solver.log
    c.loop-count.parts.solver.log) (sym same) c.loop-count.invariant.0.steps

pub returns-in_default-clause-gave : goal.returns-in_default-clause-gave
returns-in_default-clause-gave g c =
    let none : c.in_ok-entry.field-0 ≡ None = search rules in
    let same = none_more (g.T.ClauseTrade.gave c.loop-count.trade) (g.T.ClauseTrade.gave c.take.new.self)
    c.in_ok-entry.field-0 none c.in_ok-entry.ensures.gave in
    subst (IsPrefix (g.T.ClauseTrade.gave c.args.trade.now)) (sym same) c.loop-count.invariant.0.more

pub returns-in_default-clause-follows : goal.returns-in_default-clause-follows
returns-in_default-clause-follows g c =
    g.met.T.ClauseTrade.joins c.args.trade.now c.loop-count.trade c.take.new.self c.loop-count.invariant.1
    c.in_ok-entry.ensures.follows

pub returns-in_err-import_entry-clause-run : goal.returns-in_err-import_entry-clause-run
returns-in_err-import_entry-clause-run g c =
    run_more c.args.parts.now c.loop-count.parts c.import_entry.new.self c.loop-count.invariant.0.framework
    c.loop-count.invariant.0.run c.in_err-import_entry.ensures.run

pub returns-in_err-import_entry-clause-steps : goal.returns-in_err-import_entry-clause-steps
returns-in_err-import_entry-clause-steps g c =
    steps_more c.args.own c.args.parts.now c.loop-count.parts c.import_entry.new.self
    (g.T.ClauseTrade.gave c.loop-count.trade) (g.T.ClauseTrade.gave c.take.new.self) c.in-Some.entry
    (subst (λ taken. GivesMore (g.T.ClauseTrade.gave c.loop-count.trade) (Ok taken)
    (g.T.ClauseTrade.gave c.take.new.self)) c.in-Some.is c.in_ok-entry.ensures.gave) c.loop-count.invariant.0.framework
    c.loop-count.invariant.0.steps c.in_err-import_entry.ensures.steps

pub returns-in_err-import_entry-clause-gave : goal.returns-in_err-import_entry-clause-gave
returns-in_err-import_entry-clause-gave g c =
    gave_more (g.T.ClauseTrade.gave c.args.trade.now) (g.T.ClauseTrade.gave c.loop-count.trade)
    (g.T.ClauseTrade.gave c.take.new.self) c.in-Some.entry c.loop-count.invariant.0.more
    (subst (λ taken. GivesMore (g.T.ClauseTrade.gave c.loop-count.trade) (Ok taken)
    (g.T.ClauseTrade.gave c.take.new.self)) c.in-Some.is c.in_ok-entry.ensures.gave)

pub returns-in_err-import_entry-clause-follows : goal.returns-in_err-import_entry-clause-follows
returns-in_err-import_entry-clause-follows g c =
    g.met.T.ClauseTrade.joins c.args.trade.now c.loop-count.trade c.take.new.self c.loop-count.invariant.1
    c.in_ok-entry.ensures.follows

pub loop-count-preserved : goal.loop-count-preserved
loop-count-preserved g c = (
  taking_more c.args.own c.args.parts.now c.loop-count.parts c.import_entry.new.self
      (g.T.ClauseTrade.left c.args.trade.now) (g.T.ClauseTrade.left c.loop-count.trade)
      (g.T.ClauseTrade.left c.take.new.self) (g.T.ClauseTrade.gave c.args.trade.now)
      (g.T.ClauseTrade.gave c.loop-count.trade) (g.T.ClauseTrade.gave c.take.new.self) c.in-Some.entry
      c.loop-count.count c.loop-count.invariant.0
      (subst (λ taken. GivesFirst (g.T.ClauseTrade.left c.loop-count.trade) (Ok taken)
      (g.T.ClauseTrade.left c.take.new.self)) c.in-Some.is c.in_ok-entry.ensures.first)
      (subst (λ taken. GivesMore (g.T.ClauseTrade.gave c.loop-count.trade) (Ok taken)
      (g.T.ClauseTrade.gave c.take.new.self)) c.in-Some.is c.in_ok-entry.ensures.gave)
      c.in_ok-import_entry.ensures.whole
      c.in_ok-import_entry.ensures.framework c.in_ok-import_entry.ensures.run c.in_ok-import_entry.ensures.steps
      c.in_ok-import_entry.ensures.comes,
  g.met.T.ClauseTrade.joins c.args.trade.now c.loop-count.trade c.take.new.self c.loop-count.invariant.1
      c.in_ok-entry.ensures.follows,
)

pub returns-clause-all : goal.returns-clause-all
returns-clause-all g c = λ waiting is.
    taking_most c.args.own c.args.parts.now c.loop-count.parts (g.T.ClauseTrade.left c.args.trade.now)
    (g.T.ClauseTrade.left c.loop-count.trade) (g.T.ClauseTrade.gave c.args.trade.now)
    (g.T.ClauseTrade.gave c.loop-count.trade) c.loop-count.count c.loop-count-test.false c.loop-count.invariant.0
    waiting is
