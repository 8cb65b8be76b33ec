use Rattle.aba_notions.proofs.UnfoundedLemmas.{NoneShared}
use Rattle.aba_notions.proofs.aba_plain.AbaPlain.shared_atom.Given as goal

abbrev pub invariant-loop-pair : goal.invariant-loop-pair
invariant-loop-pair l = NoneShared l.atoms l.body l.pair-index
