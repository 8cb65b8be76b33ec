use Rattle.core_events.proofs.RunLemmas.{machines_run}
use Rattle.core_events.proofs.laws.machines_make_runs.Goals as goal

pub returns : goal.returns
returns c = machines_run
