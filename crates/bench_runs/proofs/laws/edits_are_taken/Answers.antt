use Rattle.bench_runs.proofs.RunLemmas.{undisturbed}
use Rattle.bench_runs.proofs.laws.edits_are_taken.Goals as goal

pub returns : goal.returns
returns c = undisturbed
