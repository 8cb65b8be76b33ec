use Rattle.plain_lits.proofs.OneOutcome.{one_outcome}
use Rattle.plain_lits.proofs.laws.check_has_one_outcome.Goals as goal

pub returns : goal.returns
returns g c = one_outcome
