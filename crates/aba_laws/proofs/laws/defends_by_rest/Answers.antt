use Rattle.semantics.specs.AbaFrameworks.{collective_of}
use Rattle.aba_laws.proofs.AbaLemmas.{aba_lawful}
use Rattle.aba_laws.proofs.CollectiveSets.{defends_by_rest}
use Rattle.aba_laws.proofs.laws.defends_by_rest.Goals as goal

pub returns : goal.returns
returns c = λ f. defends_by_rest (collective_of f) (aba_lawful f)
