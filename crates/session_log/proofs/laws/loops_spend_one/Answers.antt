use Rattle.session_log.proofs.Spending.{loop_spends}
use Rattle.session_log.proofs.laws.loops_spend_one.Goals as goal

pub returns : goal.returns
returns c = loop_spends
