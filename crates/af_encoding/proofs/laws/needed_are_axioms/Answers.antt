use Rattle.af_encoding.proofs.NeededLemmas.{needed_is_name}
use Rattle.af_encoding.proofs.laws.needed_are_axioms.Goals as goal

pub returns : goal.returns
returns c = λ f ok name h. needed_is_name f ok name h
