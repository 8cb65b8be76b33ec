use Rattle.core_machine.proofs.ServerSoundness.{all_logs_true}
use Rattle.core_machine.proofs.laws.all_logs_are_true.Goals as goal

pub returns : goal.returns
returns c = all_logs_true
