use Rattle.session_log.proofs.Naming.{names_single}
use Rattle.session_log.proofs.import_laws.names_are_single.Goals as goal

pub returns : goal.returns
returns c = names_single
