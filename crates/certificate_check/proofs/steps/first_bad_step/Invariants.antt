use Rattle.edit_rules.specs.Kinds.{framework_of}
use Rattle.answer_claims.specs.SideClauses.{sides_of}
use Rattle.certificate_check.specs.StepRows.{IsTaken, clauses_of}
use Rattle.certificate_check.proofs.StepLemmas.{HasTaken}
use Rattle.certificate_check.proofs.steps.first_bad_step.Given as goal

abbrev pub invariant-loop-index : goal.invariant-loop-index
invariant-loop-index l = record {
  rows : IsTaken (framework_of l.framework) l.kind l.sets l.taken;
  steps : HasTaken (framework_of l.framework) (sides_of (framework_of l.framework) l.kind l.sets)
      (clauses_of (framework_of l.framework) l.kind l.sets l.taken) l.steps l.index;
}
