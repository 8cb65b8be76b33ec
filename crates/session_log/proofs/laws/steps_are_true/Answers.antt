use Rattle.session_log.proofs.StepWorlds.{step_true}
use Rattle.session_log.proofs.laws.steps_are_true.Goals as goal

pub returns : goal.returns
returns c = step_true
