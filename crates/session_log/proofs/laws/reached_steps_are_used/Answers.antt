use Rattle.session_log.proofs.StepLemmas.{reached_used}
use Rattle.session_log.proofs.laws.reached_steps_are_used.Goals as goal

pub returns : goal.returns
returns c = reached_used
