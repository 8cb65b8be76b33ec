use Rattle.semantics.specs.AbaFrameworks.{collective_of}
use Rattle.aba_laws.proofs.AbaLemmas.{aba_lawful}
use Rattle.aba_laws.proofs.CollectiveSets.{union_admissible}
use Rattle.aba_laws.proofs.laws.union_is_admissible.Goals as goal

pub returns : goal.returns
returns c = λ f. union_admissible (collective_of f) (aba_lawful f)
