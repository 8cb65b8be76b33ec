use Rattle.core_machine.proofs.Soundness.{pool_valid}
use Rattle.core_machine.proofs.laws.pools_are_valid.Goals as goal

pub returns : goal.returns
returns c = pool_valid
