use Rattle.session_log.proofs.Staying.{axiom_stays}
use Rattle.session_log.proofs.laws.axioms_keep_the_guards.Goals as goal

pub returns : goal.returns
returns c = axiom_stays
