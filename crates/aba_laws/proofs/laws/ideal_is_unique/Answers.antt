use Rattle.semantics.specs.AbaFrameworks.{collective_of}
use Rattle.aba_laws.proofs.AbaLemmas.{aba_lawful}
use Rattle.aba_laws.proofs.CollectiveExtensions.{ideal_unique}
use Rattle.aba_laws.proofs.laws.ideal_is_unique.Goals as goal

pub returns : goal.returns
returns c = λ f. ideal_unique (collective_of f) (aba_lawful f)
