use Rattle.session_log.proofs.GivenSteps.{only_needed}
use Rattle.session_log.proofs.given_laws.only_needed_axioms_come.Goals as goal

pub returns : goal.returns
returns c = only_needed
