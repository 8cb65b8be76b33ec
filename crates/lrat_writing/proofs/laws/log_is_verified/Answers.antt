use Rattle.lrat_writing.proofs.Verifies.{log_verified}
use Rattle.lrat_writing.proofs.laws.log_is_verified.Goals as goal

pub returns : goal.returns
returns c = log_verified
