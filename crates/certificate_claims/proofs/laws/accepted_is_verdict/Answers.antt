use Rattle.certificate_claims.proofs.Verdicts.{accepted_is_verdict}
use Rattle.certificate_claims.proofs.laws.accepted_is_verdict.Goals as goal

pub returns : goal.returns
returns c = accepted_is_verdict
