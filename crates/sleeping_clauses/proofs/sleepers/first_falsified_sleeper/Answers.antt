use Rattle.std.proofs.Common.{arith, sym, subst}
use Rattle.std.specs.Prelude.{Contains}
use Rattle.std.proofs.lemmas.List.{take_all}
use Rattle.lists.proofs.Membership.{Contains-nil}
use Rattle.sleeping_clauses.proofs.Falsifying.{sleepers_more}
use Rattle.sleeping_clauses.proofs.sleepers.first_falsified_sleeper.Goals as goal

pub loop-index-init : goal.loop-index-init
loop-index-init c = λ x there h. Contains-nil x there

pub is_falsified_sleeper-requires-clause-step : goal.is_falsified_sleeper-requires-clause-step
is_falsified_sleeper-requires-clause-step c =
    let x = c.sleeper_at.result in
    (c.requires.asleep x (c.loop-index.index, c.loop-index-test.true, c.sleeper_at.ensures x)).step

pub is_falsified_sleeper-requires-clause-key : goal.is_falsified_sleeper-requires-clause-key
is_falsified_sleeper-requires-clause-key c =
    let x = c.sleeper_at.result in
    (c.requires.asleep x (c.loop-index.index, c.loop-index-test.true, c.sleeper_at.ensures x)).key

pub loop-index-preserved : goal.loop-index-preserved
loop-index-preserved c =
    sleepers_more c.args.log.now.steps c.args.asleep.now c.args.clause.now c.args.trail.now.lits c.loop-index.index
    c.sleeper_at.result c.requires.falsified c.loop-index-test.true c.sleeper_at.ensures c.loop-index.invariant
    c.if-is_falsified_sleeper.ensures

pub returns : goal.returns
returns c =
    let past = c.loop-index-test.false in
    λ x there h. c.loop-index.invariant x
    (subst (λ xs. Contains xs x) (sym (take_all c.loop-index.index c.args.asleep.now (omega (arith, past)))) there) h
