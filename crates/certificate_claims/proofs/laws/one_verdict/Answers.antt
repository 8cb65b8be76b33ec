use Rattle.certificate_claims.proofs.Verdicts.{one_verdict}
use Rattle.certificate_claims.proofs.laws.one_verdict.Goals as goal

pub returns : goal.returns
returns c = one_verdict
