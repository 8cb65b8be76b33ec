use Rattle.semantics.proofs.Extensions.{preferred_complete}
use Rattle.semantics.proofs.laws.preferred_is_complete.Goals as goal

pub returns : goal.returns
returns c = preferred_complete
