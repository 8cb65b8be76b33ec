use Rattle.semantics.specs.AbaFrameworks.{collective_of}
use Rattle.aba_laws.proofs.AbaLemmas.{aba_lawful}
use Rattle.aba_laws.proofs.CollectiveSets.{defended_admissible}
use Rattle.aba_laws.proofs.laws.defended_is_admissible.Goals as goal

pub returns : goal.returns
returns c = λ f. defended_admissible (collective_of f) (aba_lawful f)
