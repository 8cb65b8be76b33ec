use Rattle.edit_rules.specs.Kinds.{framework_of}
use Rattle.answer_claims.specs.SideClauses.{sides_of}
use Rattle.core_answers.specs.Parts.{ReachOwn}
use Rattle.core_answers.specs.Refuting.{HasNumbers}
use Rattle.core_answers.proofs.RefuteLemmas.{refutes_back, refutes_there}
use Rattle.core_answers.proofs.refuting.is_refuted.Goals as goal

pub returns : goal.returns
returns c = λ t is.
    let f = framework_of c.args.framework.now in
    let numbers : HasNumbers c.args.log.now.sides (sides_of f c.args.claim.now.kind c.args.claim.now.sides)
    c.in_ok-own.own = rw (c.sides.ensures, c.as_slice.ensures) at c.in_ok-own.ensures in
    let reach : ReachOwn c.in_ok-own.own c.args.log.now.steps c.in_ok-marks.marks.items =
    rw c.steps.ensures at c.in_ok-marks.ensures in
    let has = (rw (c.steps-2.ensures, c.as_slice-2.ensures.value) at c.has_refuting-refuted.ensures) in (
      λ yes_. refutes_there f c.args.log.now c.args.claim.now t c.in_ok-own.own c.in_ok-marks.marks.items is numbers
          reach (has.0 yes_),
      λ h. has.1 (refutes_back f c.args.log.now c.args.claim.now t c.in_ok-own.own c.in_ok-marks.marks.items is numbers
          reach h),
    )
