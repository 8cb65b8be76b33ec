use Rattle.certificate_text.proofs.OrdinalLemmas.{ordinals_bad, read_next, read_start, spelled, taken, unspelled}
use Rattle.certificate_text.specs.StepFields.{SpellsOrdinal}
use Rattle.certificate_text.proofs.step.ordinals.Goals as goal

pub loop-field-init : goal.loop-field-init
loop-field-init c = rw c.requires (read_start SpellsOrdinal _)

pub loop-field-preserved : goal.loop-field-preserved
loop-field-preserved c =
    rw c.in_ok-push.ensures.ok
    (read_next SpellsOrdinal _ _ _ _ _ _ c.loop-field.invariant (taken _ _ _ c.in-Some.ensures.some)
    (spelled _ _ _ c.in-Some.ensures.number c.in-Some-from_one.ensures.number))

pub returns-in_default-from_one-clause-none : goal.returns-in_default-from_one-clause-none
returns-in_default-from_one-clause-none c =
    ordinals_bad _ _ _ _ _ c.loop-field.invariant (taken _ _ _ c.in-Some.ensures.some)
    (unspelled _ _ c.in-Some.ensures.number c.in_default-from_one.ensures.none)
