use Rattle.aba_notions.specs.Unfounded.{IsShared}
use Rattle.aba_notions.proofs.UnfoundedLemmas.{HasPairs}
use Rattle.aba_notions.proofs.aba_plain.AbaPlain.row_of.Given as goal

abbrev pub invariant-loop-rule : goal.invariant-loop-rule
invariant-loop-rule l = HasPairs l.self (IsShared l.atoms) l.rule-items l.rule-index l.pairs
