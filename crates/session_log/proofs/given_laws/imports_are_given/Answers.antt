use Rattle.session_log.proofs.GivenSteps.{imports_given}
use Rattle.session_log.proofs.given_laws.imports_are_given.Goals as goal

pub returns : goal.returns
returns c = imports_given
