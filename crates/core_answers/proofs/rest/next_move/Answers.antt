use Rattle.std.proofs.Common.{◌∙◌, arith, false, subst, true}
use Rattle.std.proofs.lemmas.List.{get_or_default}
use Rattle.oracle_face.specs.Logs.{LogStep, no_step}
use Rattle.core_logs.specs.declared.checking.Status.TheVariants.{Other}
use Rattle.core_logs.specs.Tests.{IsOther}
use Rattle.core_answers.specs.Parts.{StatusAt}
use Rattle.core_answers.proofs.Fronts.{below_next}
use Rattle.core_answers.proofs.rest.next_move.Goals as goal

pub loop-index-preserved : goal.loop-index-preserved
loop-index-preserved c =
    let marks = c.args.marks.now in
    let steps = c.args.steps.now in
    let at = c.loop-index.index in
    below_next (λ k. StatusAt steps marks c.args.truths.now k Other) at c.loop-index.invariant
    (λ is. subst (λ (s : LogStep). IsOther c.args.truths.now s.clause)
    (c.index-steps-index.is ∙ get_or_default steps at c.index-steps-index.result no_step c.loop-index-test.true)
    (c.in-Other.ensures
    (get_or_default marks at false true (omega (arith, c.requires, c.loop-index-test.true)) ∙ is)))
