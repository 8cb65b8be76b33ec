use Rattle.session_log.proofs.Spending.{imported_spends}
use Rattle.session_log.proofs.laws.imported_steps_spend_nothing.Goals as goal

pub returns : goal.returns
returns c = imported_spends
