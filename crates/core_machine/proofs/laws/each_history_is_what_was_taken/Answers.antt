use Rattle.core_machine.proofs.ServerSoundness.{each_history_taken}
use Rattle.core_machine.proofs.laws.each_history_is_what_was_taken.Goals as goal

pub returns : goal.returns
returns c = each_history_taken
