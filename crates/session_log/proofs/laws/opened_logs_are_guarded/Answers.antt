use Rattle.session_log.proofs.Staying.{opened_guarded}
use Rattle.session_log.proofs.laws.opened_logs_are_guarded.Goals as goal

pub returns : goal.returns
returns c = opened_guarded
