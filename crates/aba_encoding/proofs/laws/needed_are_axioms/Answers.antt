use Rattle.aba_encoding.proofs.NeededLemmas.{needed_is_axiom}
use Rattle.aba_encoding.proofs.laws.needed_are_axioms.Goals as goal

pub returns : goal.returns
returns c = λ f form name h. needed_is_axiom f form name h
