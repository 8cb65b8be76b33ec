use Rattle.core_machine.proofs.ServerSoundness.{all_answers_right}
use Rattle.core_machine.proofs.laws.all_answers_are_right.Goals as goal

pub returns : goal.returns
returns c = all_answers_right
