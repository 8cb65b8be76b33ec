use Rattle.edit_rules.specs.Kinds.{framework_of}
use Rattle.certificate_check.specs.StepRows.{HasSettled}
use Rattle.certificate_check.proofs.steps.settle_all.Given as goal

abbrev pub invariant-loop-hint : goal.invariant-loop-hint
invariant-loop-hint l =
    HasSettled (framework_of l.framework) l.kind l.sets l.limit l.hints l.hint-index l.initial.taken l.taken
