use Rattle.meaning_atoms.proofs.LoopNumbers.{HasRows}
use Rattle.meaning_atoms.proofs.loop_text.rows_of.Given as goal

abbrev pub invariant-loop-atom : goal.invariant-loop-atom
invariant-loop-atom l = HasRows l.atoms l.fn.numbers l.atom-index l.rows l.rest
