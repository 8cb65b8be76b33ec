use Rattle.semantics.proofs.Extensions.{stable_largest}
use Rattle.semantics.proofs.laws.stable_is_largest.Goals as goal

pub returns : goal.returns
returns c = stable_largest
