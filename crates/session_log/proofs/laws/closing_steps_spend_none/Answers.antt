use Rattle.session_log.proofs.Spending.{closing_spends}
use Rattle.session_log.proofs.laws.closing_steps_spend_none.Goals as goal

pub returns : goal.returns
returns c = closing_spends
