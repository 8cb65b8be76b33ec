use Rattle.std.proofs.Common.{◌∷◌, ◌∙◌, map, ap, sym, subst, refl}
use Rattle.certificate_text.specs.Lines.{FaultsAt}
use Rattle.certificate_text.proofs.step.side.Goals as goal

pub returns-in-None-clause-fault : goal.returns-in-None-clause-fault
returns-in-None-clause-fault c =
    subst (FaultsAt c.args.line _) (sym c.fault-in-None.ensures) (
      refl,
      (
        c.in-Some.field.text.now,
        ap (map (λ f. f.text)) c.in-Some.ensures.steps
            ∙ ap (λ l. c.in-Some.field.text.now ∷ l) (c.if-not-is_done.ensures.0 refl),
        c.in-None.ensures.none,
      ),
    )
