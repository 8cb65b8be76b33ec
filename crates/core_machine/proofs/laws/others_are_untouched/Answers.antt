use Rattle.core_machine.proofs.ServerSoundness.{others_untouched}
use Rattle.core_machine.proofs.laws.others_are_untouched.Goals as goal

pub returns : goal.returns
returns c = others_untouched
