use Rattle.core_machine.proofs.Soundness.{logs_true}
use Rattle.core_machine.proofs.laws.logs_are_true.Goals as goal

pub returns : goal.returns
returns c = logs_true
