use Rattle.session_core.proofs.ShareRunLemmas.{shares_run}
use Rattle.session_core.proofs.laws.shares_are_runs.Goals as goal

pub returns : goal.returns
returns c = shares_run
