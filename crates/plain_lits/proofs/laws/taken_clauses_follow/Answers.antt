use Rattle.plain_lits.proofs.HintCheckLemmas.{taken_sound}
use Rattle.plain_lits.proofs.laws.taken_clauses_follow.Goals as goal

pub returns : goal.returns
returns g c = taken_sound
