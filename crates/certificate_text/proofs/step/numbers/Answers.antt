use Rattle.num_text.specs.Number.{IsNumber}
use Rattle.certificate_text.proofs.OrdinalLemmas.{number_read, number_unread, numbers_bad, read_next, read_start, taken}
use Rattle.certificate_text.proofs.step.numbers.Goals as goal

pub loop-field-init : goal.loop-field-init
loop-field-init c = rw c.requires (read_start IsNumber _)

pub loop-field-preserved : goal.loop-field-preserved
loop-field-preserved c =
    rw c.in_ok-push.ensures.ok
    (read_next IsNumber _ _ _ _ _ _ c.loop-field.invariant (taken _ _ _ c.in-Some.ensures.some)
    (number_read _ _ _ c.in-Some.ensures.number c.in-Some-number.is))

pub returns-in_default-number-clause-none : goal.returns-in_default-number-clause-none
returns-in_default-number-clause-none c =
    numbers_bad _ _ _ _ _ c.loop-field.invariant (taken _ _ _ c.in-Some.ensures.some)
    (number_unread _ _ c.in-Some.ensures.number c.in_default-number.is)
