use Rattle.semantics.proofs.WidestSets.{widest_round}
use Rattle.semantics.proofs.laws.widest_exists.Goals as goal

pub returns : goal.returns
returns c = widest_round
