use Rattle.core_machine.proofs.ServerSoundness.{all_imports_spend}
use Rattle.core_machine.proofs.laws.all_imports_spend_nothing.Goals as goal

pub returns : goal.returns
returns c = all_imports_spend
