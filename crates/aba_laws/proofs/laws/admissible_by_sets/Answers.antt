use Rattle.semantics.specs.AbaFrameworks.{collective_of}
use Rattle.aba_laws.proofs.AbaLemmas.{aba_lawful}
use Rattle.aba_laws.proofs.CollectiveSets.{admissible_by_sets}
use Rattle.aba_laws.proofs.laws.admissible_by_sets.Goals as goal

pub returns : goal.returns
returns c = λ f. admissible_by_sets (collective_of f) (aba_lawful f)
