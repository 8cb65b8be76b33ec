use Rattle.std.proofs.Common.{subst}
use Rattle.af_axioms.specs.Facts.{IsFactValue}
use Rattle.edit_rules.specs.Kinds.{framework_of}
use Rattle.core_answers.proofs.FactLemmas.{if_fact, true_fact, false_fact}
use Rattle.core_answers.proofs.facts.is_false_if_fact.Goals as goal

pub returns-in-Some-true : goal.returns-in-Some-true
returns-in-Some-true c =
    let fact = subst (λ v. IsFactValue (framework_of c.args.framework.now) c.args.literal.now.atom v)
    c.in-Some-true.field-0-test c.in-Some-true.ensures.some in
    if_fact _ _ _ fact.fact (true_fact _ _ _ fact)

pub returns-in-Some-false : goal.returns-in-Some-false
returns-in-Some-false c =
    let fact = subst (λ v. IsFactValue (framework_of c.args.framework.now) c.args.literal.now.atom v)
    c.in-Some-false.field-0-test c.in-Some-false.ensures.some in
    if_fact _ _ _ fact.fact (false_fact _ _ _ fact)
