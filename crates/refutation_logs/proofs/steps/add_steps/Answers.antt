use Rattle.edit_rules.specs.Kinds.{framework_of}
use Rattle.std.proofs.Common.{arith, refl, subst, ◌∙◌}
use Rattle.std.proofs.lemmas.List.{take_all}
use Rattle.answer_claims.specs.SideClauses.{sides_of}
use Rattle.refutation_logs.specs.Tables.{IsLogged}
use Rattle.refutation_logs.proofs.Loggings.{few_next, logged_next, next_can, none_logged}
use Rattle.refutation_logs.proofs.steps.add_steps.Goals as goal

pub loop-index-init : goal.loop-index-init
loop-index-init c = record {
  logged = none_logged _ _ _ c.requires.atoms c.requires.clauses c.requires.idle c.requires.none;
  count = refl;
}

pub add_step-requires-clause-step : goal.add_step-requires-clause-step
add_step-requires-clause-step c =
    next_can (framework_of c.args.framework.now) c.args.kind c.args.sets.now _ _ _ _ _ c.loop-index-test.true
    c.index-steps-index.is c.requires.hold c.loop-index.invariant.logged

pub add_step-requires-clause-few : goal.add_step-requires-clause-few
add_step-requires-clause-few c =
    few_next _ _ _ _ _ c.loop-index-test.true c.requires.few c.loop-index.invariant.logged

pub add_step-requires-clause-idle : goal.add_step-requires-clause-idle
add_step-requires-clause-idle c = c.loop-index.invariant.logged.idle

pub loop-index-preserved : goal.loop-index-preserved
loop-index-preserved c = record {
  logged = logged_next _ _ _ _ _ _ _ _ c.loop-index-test.true c.index-steps-index.is c.loop-index.invariant.logged
      c.in_ok-add_step.ensures;
  count = c.in_ok-add_step.ensures.count ∙ c.loop-index.invariant.count;
}

pub returns-clause-logged : goal.returns-clause-logged
returns-clause-logged c =
    let test = c.loop-index-test.false in
    subst (λ ss. IsLogged (sides_of (framework_of c.args.framework.now) c.args.kind c.args.sets.now) ss
    c.loop-index.table c.loop-index.writer) (take_all c.loop-index.index c.args.steps.now (omega (arith, test)))
    c.loop-index.invariant.logged
