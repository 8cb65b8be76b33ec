use Rattle.certificate_check.proofs.StepLemmas.{end_closed, positive_length}
use Rattle.certificate_check.proofs.refuting.ends_closed.Goals as goal

pub returns : goal.returns
returns c = end_closed _ _ _ _ _ (positive_length _ c.if-is_empty.ensures) c.index-steps-steps.is c.in_ok-closed.ensures
