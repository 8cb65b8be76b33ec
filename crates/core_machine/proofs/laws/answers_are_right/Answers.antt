use Rattle.core_machine.proofs.Soundness.{answers_right}
use Rattle.core_machine.proofs.laws.answers_are_right.Goals as goal

pub returns : goal.returns
returns c = answers_right
