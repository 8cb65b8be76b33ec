use Rattle.bench_runs.proofs.WalkLemmas.{own_records}
use Rattle.bench_runs.proofs.walk_laws.records_are_own.Goals as goal

pub returns : goal.returns
returns c = own_records
