use Rattle.aba_laws.proofs.DeductionLemmas.{derived_deduced}
use Rattle.aba_laws.proofs.laws.derived_is_deduced.Goals as goal

pub returns : goal.returns
returns c = derived_deduced
