use Rattle.std.proofs.Common.{map, ap, sym, subst, refl}
use Rattle.certificate_text.specs.Lines.{FaultsAt}
use Rattle.certificate_text.proofs.StepLemmas.{axiom_stands}
use Rattle.certificate_text.proofs.step.axiom.Goals as goal

pub returns-in-None-clause-fault : goal.returns-in-None-clause-fault
returns-in-None-clause-fault c =
    subst (FaultsAt c.args.line _) (sym c.fault-in-None.ensures)
    (refl, axiom_stands _ _ _ _ (ap (map (λ f. f.text)) c.in-Some.ensures.steps) c.in_ok-axiom.ensures.none c.in-None.is)
