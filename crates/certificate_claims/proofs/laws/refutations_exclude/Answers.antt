use Rattle.certificate_claims.proofs.Refuting.{excluded}
use Rattle.certificate_claims.proofs.laws.refutations_exclude.Goals as goal

pub returns : goal.returns
returns c = excluded
