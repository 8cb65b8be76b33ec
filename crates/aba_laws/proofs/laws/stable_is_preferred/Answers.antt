use Rattle.semantics.specs.AbaFrameworks.{collective_of}
use Rattle.aba_laws.proofs.AbaLemmas.{aba_lawful}
use Rattle.aba_laws.proofs.CollectiveExtensions.{stable_preferred}
use Rattle.aba_laws.proofs.laws.stable_is_preferred.Goals as goal

pub returns : goal.returns
returns c = λ f. stable_preferred (collective_of f) (aba_lawful f)
