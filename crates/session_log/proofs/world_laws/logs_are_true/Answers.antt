use Rattle.session_log.proofs.WorldTruth.{log_true}
use Rattle.session_log.proofs.world_laws.logs_are_true.Goals as goal

pub returns : goal.returns
returns c = log_true
