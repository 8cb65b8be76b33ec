use Rattle.semantics.specs.AbaFrameworks.{collective_of}
use Rattle.aba_laws.proofs.AbaLemmas.{aba_lawful}
use Rattle.aba_laws.proofs.CollectiveGrounded.{grounded_unique}
use Rattle.aba_laws.proofs.laws.grounded_is_unique.Goals as goal

pub returns : goal.returns
returns c = λ f. grounded_unique (collective_of f) (aba_lawful f)
