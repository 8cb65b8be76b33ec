use Rattle.std.proofs.Common.{refl}
use Rattle.std.proofs.lemmas.Bool.{false≢true}
use Rattle.core_answers.proofs.RestLemmas.{spreading_begins, spreading_fails, spreading_goes_on, spreading_rests}
use Rattle.core_answers.proofs.rest.none_takes.Goals as goal

pub loop-marks-init : goal.loop-marks-init
loop-marks-init c = spreading_begins c.args.steps.now c.args.clause.now c.in_ok-truths.truths.items
    c.in_ok-marks.marks.items (λ t. false≢true (c.if-tautology.ensures.1 t)) c.in_ok-truths.ensures
    c.in_ok-marks.ensures

pub returns-in-Conflict : goal.returns-in-Conflict
returns-in-Conflict c =
    let is = (rw (c.as_slice.ensures.value, c.as_slice-in-loop-marks.ensures.value) at c.in-Conflict.ensures) in (
      λ t. absurd (false≢true t),
      λ none. absurd (spreading_fails c.args.steps.now c.args.clause.now c.loop-marks.truths.items
          c.loop-marks.marks.items c.in-Conflict.field-0 c.loop-marks.invariant
          (λ t. false≢true (c.if-tautology.ensures.1 t)) is.0 is.1 none),
    )

pub returns-in-Rest : goal.returns-in-Rest
returns-in-Rest c =
    let is = (rw (c.as_slice.ensures.value, c.as_slice-in-loop-marks.ensures.value) at c.in-Rest.ensures) in (
      λ t. spreading_rests c.args.steps.now c.args.clause.now c.loop-marks.truths.items c.loop-marks.marks.items
          c.loop-marks.invariant is,
      λ none. refl,
    )

pub loop-marks-preserved : goal.loop-marks-preserved
loop-marks-preserved c =
    let is = (rw (c.as_slice.ensures.value, c.as_slice-in-loop-marks.ensures.value) at c.in-Implied.ensures) in
    spreading_goes_on c.args.steps.now c.args.clause.now c.loop-marks.truths.items c.push.new.self.items
    c.loop-marks.marks.items c.in-Implied.index c.in-Implied.literal c.loop-marks.invariant is.0 is.1
    c.in_ok-push-in-Implied.ensures.items
