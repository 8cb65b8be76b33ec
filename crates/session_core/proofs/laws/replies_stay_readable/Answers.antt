use Rattle.session_core.proofs.SessionLemmas.{readable_still}
use Rattle.session_core.proofs.laws.replies_stay_readable.Goals as goal

pub returns : goal.returns
returns c = readable_still
