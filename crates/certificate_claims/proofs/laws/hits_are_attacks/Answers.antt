use Rattle.certificate_claims.proofs.KindFacts.{hit_is}
use Rattle.certificate_claims.proofs.laws.hits_are_attacks.Goals as goal

pub returns : goal.returns
returns c = hit_is
