use Rattle.session_log.proofs.Spending.{axiom_spends}
use Rattle.session_log.proofs.laws.axioms_spend_nothing.Goals as goal

pub returns : goal.returns
returns c = axiom_spends
