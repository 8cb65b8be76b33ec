use Rattle.std.proofs.Common.{arith}
use Rattle.sat_core.proofs.Descending.{on_trans, on_equal, on_decided_after, decided_long}
use Rattle.sat_core.proofs.decision_loop.DecisionLoop.decide_until_conflict.Goals as goal

pub returns-in-Some-clause-on : goal.returns-in-Some-clause-on
returns-in-Some-clause-on c = on_trans _ _ _ c.levels.invariant c.in-Some.ensures.on

pub levels-preserved : goal.levels-preserved
levels-preserved c =
    on_trans _ _ _ c.levels.invariant (on_trans _ _ _ c.in-None.ensures.on
    (on_decided_after _ _ _ _ c.next_lit.ensures.search c.vars-form.ensures.form c.in-None.ensures.found
    c.decide.ensures))

pub levels-smaller : goal.levels-smaller
levels-smaller c =
    let d = decided_long _ _ _ _ c.next_lit.ensures.search c.decide.ensures in
    let long = d.0 in
    let same = d.1 in
    let more = c.in-None.ensures.more in
    let vars = c.in-None.ensures.on.vars in
    let short = c.vars-short.ensures.form.short in
    omega (arith, long, same, more, vars, short)

pub returns-in-None-next_lit-clause-on : goal.returns-in-None-next_lit-clause-on
returns-in-None-next_lit-clause-on c =
    on_trans _ _ _ c.levels.invariant (on_trans _ _ _ c.in-None.ensures.on (on_equal _ _ c.next_lit.ensures.search))
