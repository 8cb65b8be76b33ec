use Rattle.semantics.proofs.Extensions.{grounded_unique}
use Rattle.semantics.proofs.laws.grounded_is_unique.Goals as goal

pub returns : goal.returns
returns c = grounded_unique
