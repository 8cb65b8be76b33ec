use Rattle.certificate_text.proofs.StepLemmas.{not_read}
use Rattle.certificate_text.proofs.step.with_literal.Goals as goal

pub returns-in-None : goal.returns-in-None
returns-in-None c =
    rw c.if-not-readable.false (not_read _ _ c.in-None.is c.literal_of.ensures.read)
