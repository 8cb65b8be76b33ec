use Rattle.session_log.proofs.Closing.{closed_refutes_goals}
use Rattle.session_log.proofs.laws.closed_steps_refute_goals.Goals as goal

pub returns : goal.returns
returns c = closed_refutes_goals
