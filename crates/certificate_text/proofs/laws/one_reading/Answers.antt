use Rattle.certificate_text.proofs.OneOutcome.{one_reading}
use Rattle.certificate_text.proofs.laws.one_reading.Goals as goal

pub returns : goal.returns
returns c = one_reading
