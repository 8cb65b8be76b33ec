use Rattle.std.proofs.Common.{◌-◌, length}
use Rattle.meaning_atoms.proofs.LoopNumbers.{HasPairs}
use Rattle.meaning_atoms.proofs.loop_text.first_pairs.Given as goal

abbrev pub invariant-loop-rest : goal.invariant-loop-rest
invariant-loop-rest l = HasPairs l.fn.numbers l.count l.pairs l.rest

abbrev pub decreases-loop-rest : goal.decreases-loop-rest
decreases-loop-rest l = l.count - length l.pairs
