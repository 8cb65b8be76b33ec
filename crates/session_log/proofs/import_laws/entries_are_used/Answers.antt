use Rattle.session_log.proofs.Taking.{entry_used}
use Rattle.session_log.proofs.import_laws.entries_are_used.Goals as goal

pub returns : goal.returns
returns c = entry_used
