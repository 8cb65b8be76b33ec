use Rattle.semantics.proofs.Extensions.{ideal_unique}
use Rattle.semantics.proofs.laws.ideal_is_unique.Goals as goal

pub returns : goal.returns
returns c = ideal_unique
