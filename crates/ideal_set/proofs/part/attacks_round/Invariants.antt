use Rattle.ideal_set.proofs.RoundLemmas.{HasEnds}
use Rattle.ideal_set.proofs.part.attacks_round.Given as goal

abbrev pub invariant-loop-member : goal.invariant-loop-member
invariant-loop-member l = HasEnds l.plain l.set l.member-index l.found.items
