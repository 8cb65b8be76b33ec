use Rattle.bench_runs.proofs.CoreWalkLemmas.{sessions_run}
use Rattle.bench_runs.proofs.walk_laws.sessions_are_runs.Goals as goal

pub returns : goal.returns
returns c = sessions_run
