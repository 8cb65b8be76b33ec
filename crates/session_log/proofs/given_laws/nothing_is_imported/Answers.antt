use Rattle.session_log.proofs.GivenSteps.{nothing_imported}
use Rattle.session_log.proofs.given_laws.nothing_is_imported.Goals as goal

pub returns : goal.returns
returns c = nothing_imported
