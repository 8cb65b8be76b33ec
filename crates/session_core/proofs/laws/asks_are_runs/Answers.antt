use Rattle.session_core.proofs.AskRuns.{asks_run}
use Rattle.session_core.proofs.laws.asks_are_runs.Goals as goal

pub returns : goal.returns
returns c = asks_run
