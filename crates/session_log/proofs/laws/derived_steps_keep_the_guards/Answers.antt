use Rattle.session_log.proofs.Staying.{derived_stays}
use Rattle.session_log.proofs.laws.derived_steps_keep_the_guards.Goals as goal

pub returns : goal.returns
returns c = derived_stays
