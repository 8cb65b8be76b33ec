use Rattle.session_core.proofs.SessionLemmas.{readable_now}
use Rattle.session_core.proofs.laws.replies_can_be_read.Goals as goal

pub returns : goal.returns
returns c = readable_now
