use Rattle.semantics.proofs.Existence.{preferred_round}
use Rattle.semantics.proofs.laws.admissible_is_in_preferred.Goals as goal

pub returns : goal.returns
returns c = preferred_round
