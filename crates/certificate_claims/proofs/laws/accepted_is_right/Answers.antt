use Rattle.certificate_claims.proofs.Right.{accepted_right}
use Rattle.certificate_claims.proofs.laws.accepted_is_right.Goals as goal

pub returns : goal.returns
returns c = accepted_right
