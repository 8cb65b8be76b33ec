use Rattle.oracle_face.proofs.Refuting.{claim_excluded}
use Rattle.oracle_face.proofs.laws.refuted_claims_are_excluded.Goals as goal

pub returns : goal.returns
returns c = claim_excluded
