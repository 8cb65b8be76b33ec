use Rattle.session_log.proofs.GivenSteps.{steps_stay}
use Rattle.session_log.proofs.given_laws.steps_stay_steps.Goals as goal

pub returns : goal.returns
returns c = steps_stay
