use Rattle.session_log.proofs.NewSides.{side_is_new}
use Rattle.session_log.proofs.laws.sides_are_new.Goals as goal

pub returns : goal.returns
returns c = side_is_new
