use Rattle.core_machine.proofs.ServerSoundness.{one_pool_valid}
use Rattle.core_machine.proofs.laws.one_pool_is_valid.Goals as goal

pub returns : goal.returns
returns c = one_pool_valid
