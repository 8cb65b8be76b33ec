use Rattle.core_machine.proofs.Soundness.{sees_more}
use Rattle.core_machine.proofs.laws.each_session_sees_more.Goals as goal

pub returns : goal.returns
returns c = sees_more
