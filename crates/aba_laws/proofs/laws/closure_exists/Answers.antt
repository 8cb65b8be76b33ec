use Rattle.aba_laws.proofs.DerivationLemmas.{closure_exists}
use Rattle.aba_laws.proofs.laws.closure_exists.Goals as goal

pub returns : goal.returns
returns c = closure_exists
