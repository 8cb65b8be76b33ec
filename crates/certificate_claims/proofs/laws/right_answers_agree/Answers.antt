use Rattle.certificate_claims.proofs.Agreeing.{right_agree}
use Rattle.certificate_claims.proofs.laws.right_answers_agree.Goals as goal

pub returns : goal.returns
returns c = right_agree
