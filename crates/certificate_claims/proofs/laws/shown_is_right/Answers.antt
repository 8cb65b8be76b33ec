use Rattle.certificate_claims.proofs.Right.{shown_right}
use Rattle.certificate_claims.proofs.laws.shown_is_right.Goals as goal

pub returns : goal.returns
returns c = shown_right
