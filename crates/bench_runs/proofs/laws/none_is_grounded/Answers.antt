use Rattle.bench_runs.proofs.SummaryLemmas.{none_grounded}
use Rattle.bench_runs.proofs.laws.none_is_grounded.Goals as goal

pub returns : goal.returns
returns c = none_grounded
