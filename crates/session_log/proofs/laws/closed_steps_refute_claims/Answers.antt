use Rattle.session_log.proofs.Closing.{closed_refutes_claim}
use Rattle.session_log.proofs.laws.closed_steps_refute_claims.Goals as goal

pub returns : goal.returns
returns c = closed_refutes_claim
