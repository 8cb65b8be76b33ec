use Rattle.session_log.proofs.StepWorlds.{step_shared}
use Rattle.session_log.proofs.laws.plain_steps_may_be_shared.Goals as goal

pub returns : goal.returns
returns c = step_shared
