use Rattle.semantics.specs.AbaFrameworks.{collective_of}
use Rattle.aba_laws.proofs.AbaLemmas.{aba_lawful}
use Rattle.aba_laws.proofs.CollectiveExtensions.{preferred_complete}
use Rattle.aba_laws.proofs.laws.preferred_is_complete.Goals as goal

pub returns : goal.returns
returns c = λ f. preferred_complete (collective_of f) (aba_lawful f)
