use Rattle.aba_laws.specs.AfNotions.{collective_for}
use Rattle.aba_laws.proofs.CollectiveExtensions as extensions
use Rattle.aba_laws.proofs.KindLemmas.{lawful_for}
use Rattle.aba_laws.proofs.laws.in_all_is_unattacked.Goals as goal

pub returns : goal.returns
returns c = λ f. extensions.in_all_unattacked (collective_for f) (lawful_for f)
