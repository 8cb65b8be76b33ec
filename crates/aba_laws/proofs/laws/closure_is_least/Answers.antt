use Rattle.aba_laws.proofs.DerivationLemmas.{closure_least}
use Rattle.aba_laws.proofs.laws.closure_is_least.Goals as goal

pub returns : goal.returns
returns c = closure_least
