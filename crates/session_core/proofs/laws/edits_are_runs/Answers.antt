use Rattle.session_core.proofs.EditRunLemmas.{edits_run}
use Rattle.session_core.proofs.laws.edits_are_runs.Goals as goal

pub returns : goal.returns
returns c = edits_run
