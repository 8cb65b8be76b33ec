use Rattle.std.proofs.Common.{map, subst}
use Rattle.std.specs.Prelude.{IfNone}
use Rattle.certificate_text.specs.StepFields.{HasBadNumber}
use Rattle.certificate_text.proofs.StepLemmas.{axiom_bad, axiom_found, axiom_unfound}
use Rattle.certificate_text.proofs.step.axiom_named.Goals as goal

pub returns-in_ok-found-in-Some-clause-none : goal.returns-in_ok-found-in-Some-clause-none
returns-in_ok-found-in-Some-clause-none c =
    axiom_unfound _ _ _ _ _ _ c.in_ok-arguments.ensures.numbers c.in-Some.is c.as_slice.ensures
    c.in_ok-found-in-Some.ensures.read

pub returns-in-None-clause-none : goal.returns-in-None-clause-none
returns-in-None-clause-none c = λ which is.
    axiom_bad _ _ which
    (subst (λ s. IfNone s (HasBadNumber (map (λ f. f.text) c.args.rest))) c.in-None.is c.in_ok-arguments.ensures.none) is
