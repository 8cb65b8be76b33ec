use Rattle.bench_runs.proofs.AloneLemmas.{determined}
use Rattle.bench_runs.proofs.walk_laws.alone_is_determined.Goals as goal

pub returns : goal.returns
returns c = determined
