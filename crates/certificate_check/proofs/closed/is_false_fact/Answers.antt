use Rattle.std.proofs.Common.{subst}
use Rattle.af_axioms.specs.Facts.{IsFactValue}
use Rattle.edit_rules.specs.Kinds.{framework_of}
use Rattle.certificate_check.proofs.GoalLemmas.{true_fact, false_fact}
use Rattle.certificate_check.proofs.closed.is_false_fact.Goals as goal

pub returns-in-Some-true : goal.returns-in-Some-true
returns-in-Some-true c = true_fact _ _ _ (subst (λ v. IsFactValue (framework_of c.args.framework.now)
    c.args.literal.now.atom v)
    c.in-Some-true.field-0-test c.in-Some-true.ensures.some)

pub returns-in-Some-false : goal.returns-in-Some-false
returns-in-Some-false c = false_fact _ _ _ (subst (λ v. IsFactValue (framework_of c.args.framework.now)
    c.args.literal.now.atom v)
    c.in-Some-false.field-0-test c.in-Some-false.ensures.some)
