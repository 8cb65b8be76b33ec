use Rattle.std.proofs.Common.{arith, refl}
use Rattle.edit_rules.specs.Kinds.{framework_of}
use Rattle.certificate_check.proofs.RowsLemmas.{no_clauses, untouched}
use Rattle.certificate_check.proofs.StepLemmas.{none_taken, takes_next, stops_at}
use Rattle.certificate_check.proofs.steps.first_bad_step.Goals as goal

pub loop-index-init : goal.loop-index-init
loop-index-init c = record {
  rows = untouched _ _ _ _ _ refl c.in_ok-taken.ensures;
  steps = none_taken _ _ _ _ (no_clauses (framework_of c.args.framework.now) c.args.kind c.args.sets.now _ _
      c.in_ok-taken.ensures);
}

pub returns-then-not-branch : goal.returns-then-not-branch
returns-then-not-branch c =
    stops_at _ _ _ _ _ _ _ _ c.loop-index-test.true c.index-steps-index.is c.loop-index.invariant.steps
    c.in_ok-take_step.ensures.takes c.if-not-branch.true

pub loop-index-preserved : goal.loop-index-preserved
loop-index-preserved c = record {
  rows = c.in_ok-take_step.ensures.rows;
  steps = takes_next _ _ _ _ _ _ _ _ c.loop-index-test.true c.index-steps-index.is c.loop-index.invariant.steps
      c.in_ok-take_step.ensures.takes c.if-not-branch.false;
}

pub returns : goal.returns
returns c = λ k lt. c.loop-index.invariant.steps.each k (omega arith)
