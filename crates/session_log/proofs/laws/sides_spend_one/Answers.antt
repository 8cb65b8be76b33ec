use Rattle.session_log.proofs.Spending.{side_spends}
use Rattle.session_log.proofs.laws.sides_spend_one.Goals as goal

pub returns : goal.returns
returns c = side_spends
