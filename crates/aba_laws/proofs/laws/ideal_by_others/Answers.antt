use Rattle.aba_laws.specs.AfNotions.{collective_for}
use Rattle.aba_laws.proofs.CollectiveExtensions as extensions
use Rattle.aba_laws.proofs.KindLemmas.{lawful_for}
use Rattle.aba_laws.proofs.laws.ideal_by_others.Goals as goal

pub returns : goal.returns
returns c = λ f. extensions.ideal_by_others (collective_for f) (lawful_for f)
