use Rattle.std.proofs.Common.{◌≡◌, ◌≤◌, arith, sym}
use Rattle.certificate_making.proofs.MakingLemmas.{made_all, made_more}
use Rattle.certificate_making.proofs.making.refutations_of.Goals as goal

pub refutation_of-requires-clause-step : goal.refutation_of-requires-clause-step
refutation_of-requires-clause-step g c =
    let long = c.requires.long in
    let lt = c.loop-index-test.true in
    c.requires.steps c.index-steps-index.result
    (c.loop-index.index, omega (arith, long, lt), sym c.index-steps-index.is)

pub loop-index-preserved : goal.loop-index-preserved
loop-index-preserved g c =
    let long = c.requires.long in
    let lt = c.loop-index-test.true in
    made_more (g.L.ReadLog.framework c.args.log.now) (g.L.ReadLog.log c.args.log.now) c.args.claims.now c.args.steps.now
    c.loop-index.index c.index-claims-index.result _ c.index-steps-index.result _ c.in_ok-refutation_of.field-0
    c.loop-index.made c.push.new.self c.loop-index.invariant c.loop-index-test.true c.index-claims-index.is
    c.index-steps-index.is (omega (arith, long, lt)) c.in_ok-refutation_of.ensures.made c.in_ok-refutation_of.ensures.cut c.in_ok-push.ensures.ok

pub returns-clause-made : goal.returns-clause-made
returns-clause-made g c =
    let low = c.loop-index-test.false in
    let high = c.loop-index.auto.index-end in
    made_all (g.L.ReadLog.framework c.args.log.now) (g.L.ReadLog.log c.args.log.now) c.args.claims.now c.args.steps.now
    c.loop-index.index c.loop-index.made c.loop-index.invariant (omega (arith, low, high))

pub returns-clause-cut : goal.returns-clause-cut
returns-clause-cut g c = c.loop-index.invariant.cut
