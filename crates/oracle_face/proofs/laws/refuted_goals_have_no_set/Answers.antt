use Rattle.oracle_face.proofs.Refuting.{goals_excluded}
use Rattle.oracle_face.proofs.laws.refuted_goals_have_no_set.Goals as goal

pub returns : goal.returns
returns c = goals_excluded
