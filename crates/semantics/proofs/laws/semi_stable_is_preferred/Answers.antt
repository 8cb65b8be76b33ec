use Rattle.semantics.proofs.Extensions.{semi_stable_preferred}
use Rattle.semantics.proofs.laws.semi_stable_is_preferred.Goals as goal

pub returns : goal.returns
returns c = semi_stable_preferred
