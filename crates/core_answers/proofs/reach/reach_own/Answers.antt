use Rattle.core_answers.proofs.ReachLemmas.{settled, settling_begins, settling_goes_on}
use Rattle.core_answers.proofs.reach.reach_own.Goals as goal

pub loop-index-init : goal.loop-index-init
loop-index-init c = settling_begins _ _ _ c.in_ok-marks.ensures

pub loop-index-preserved : goal.loop-index-preserved
loop-index-preserved c = settling_goes_on c.args.own.now c.args.steps.now c.loop-index.marks.items c.in-Some.index
    c.loop-index.invariant (rw (← c.as_slice.ensures.value) c.in-Some.ensures.some)

pub returns : goal.returns
returns c = settled c.args.own.now c.args.steps.now c.loop-index.marks.items c.loop-index.invariant
    (rw (← c.as_slice.ensures.value) c.in_default.ensures.none)
