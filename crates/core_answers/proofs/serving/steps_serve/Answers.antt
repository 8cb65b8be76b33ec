use Rattle.std.proofs.Common.{◌∙◌, get_or, subst, take}
use Rattle.std.proofs.lemmas.List.{get_or_default}
use Rattle.edit_rules.specs.Kinds.{framework_of}
use Rattle.oracle_face.specs.Logs.{LogStep, no_step}
use Rattle.core_answers.specs.Serving.{StepServes}
use Rattle.core_answers.proofs.Fronts.{below_from}
use Rattle.core_answers.proofs.serving.steps_serve.Goals as goal

pub loop-index-preserved : goal.loop-index-preserved
loop-index-preserved c =
    let f = framework_of c.args.framework.now in
    let steps = c.args.steps.now in
    let at = c.loop-index.index in
    below_from (λ k. StepServes f (take k steps) (get_or steps k no_step)) c.args.from at c.loop-index.invariant
    (subst (λ (s : LogStep). StepServes f (take at steps) s)
    (c.index-steps-index.is ∙ get_or_default steps at c.index-steps-index.result no_step c.loop-index-test.true)
    (c.in_ok-serves.ensures.0 c.if-not-serves.false))
