use Rattle.aba_notions.specs.Unfounded.{IsShared}
use Rattle.aba_notions.proofs.UnfoundedLemmas.{HasRows}
use Rattle.aba_notions.proofs.aba_plain.AbaPlain.rows_of.Given as goal

abbrev pub invariant-loop-atom : goal.invariant-loop-atom
invariant-loop-atom l = HasRows l.self (IsShared l.atoms) l.atoms l.atom-index l.rows
