use Rattle.std.proofs.Common.{◌∙◌, arith, false, get_or, refl, subst, true}
use Rattle.std.specs.Prelude.{IsTrue}
use Rattle.std.proofs.lemmas.List.{get_or_default}
use Rattle.oracle_face.specs.Logs.{LogStep, no_step}
use Rattle.core_answers.specs.Parts.{HandsOn}
use Rattle.core_answers.proofs.Fronts.{below_next}
use Rattle.core_answers.proofs.reach.first_fault.Goals as goal

pub loop-index-preserved : goal.loop-index-preserved
loop-index-preserved c =
    let marks = c.args.marks.now in
    let steps = c.args.steps.now in
    let at = c.loop-index.index in
    below_next (λ k. IsTrue (get_or marks k true) → HandsOn marks (get_or steps k no_step)) at c.loop-index.invariant
    (λ is. subst (λ (s : LogStep). HandsOn marks s)
    (c.index-steps-index.is ∙ get_or_default steps at c.index-steps-index.result no_step c.loop-index-test.true)
    (c.if-not-on.ensures.0 refl
    (get_or_default marks at false true (omega (arith, c.requires, c.loop-index-test.true)) ∙ is)))
