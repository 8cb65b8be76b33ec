use Rattle.core_machine.proofs.Soundness.{history_taken}
use Rattle.core_machine.proofs.laws.history_is_what_was_taken.Goals as goal

pub returns : goal.returns
returns c = history_taken
