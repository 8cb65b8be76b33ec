use Rattle.semantics.proofs.Extensions.{unattacked_in_all}
use Rattle.semantics.proofs.laws.unattacked_is_in_all_preferred.Goals as goal

pub returns : goal.returns
returns c = unattacked_in_all
