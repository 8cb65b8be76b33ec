use Rattle.semantics.specs.AbaFrameworks.{collective_of}
use Rattle.aba_laws.proofs.AbaLemmas.{aba_lawful}
use Rattle.aba_laws.proofs.CollectiveExtensions.{preferred_round}
use Rattle.aba_laws.proofs.laws.admissible_is_in_preferred.Goals as goal

pub returns : goal.returns
returns c = λ f. preferred_round (collective_of f) (aba_lawful f)
