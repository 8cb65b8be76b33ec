use Rattle.oracle_face.proofs.Refuting.{refutes_claim}
use Rattle.oracle_face.proofs.laws.refuted_goals_refute_claims.Goals as goal

pub returns : goal.returns
returns c = refutes_claim
