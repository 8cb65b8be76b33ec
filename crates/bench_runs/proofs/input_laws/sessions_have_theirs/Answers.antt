use Rattle.bench_runs.proofs.SessionLines.{sessions_have_theirs}
use Rattle.bench_runs.proofs.input_laws.sessions_have_theirs.Goals as goal

pub returns : goal.returns
returns c = sessions_have_theirs
