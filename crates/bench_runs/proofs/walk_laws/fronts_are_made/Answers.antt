use Rattle.bench_runs.proofs.WalkLemmas.{fronts_made}
use Rattle.bench_runs.proofs.walk_laws.fronts_are_made.Goals as goal

pub returns : goal.returns
returns c = fronts_made
