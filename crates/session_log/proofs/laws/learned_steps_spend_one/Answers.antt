use Rattle.session_log.proofs.Spending.{learned_spends}
use Rattle.session_log.proofs.laws.learned_steps_spend_one.Goals as goal

pub returns : goal.returns
returns c = learned_spends
