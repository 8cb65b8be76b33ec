use Rattle.core_machine.proofs.ServerSoundness.{each_sees_more}
use Rattle.core_machine.proofs.laws.each_session_sees_more_of_its_own.Goals as goal

pub returns : goal.returns
returns c = each_sees_more
