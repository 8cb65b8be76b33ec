use Rattle.session_log.proofs.Staying.{side_stays}
use Rattle.session_log.proofs.laws.sides_keep_the_guards.Goals as goal

pub returns : goal.returns
returns c = side_stays
