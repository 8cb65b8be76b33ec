use Rattle.af_encoding.proofs.NeededLemmas.{HasWalked}
use Rattle.af_encoding.proofs.needed_axioms.push_axioms.Given as goal

abbrev pub invariant-loop-attack : goal.invariant-loop-attack
invariant-loop-attack l = HasWalked l.plain l.argument l.attack-items l.attack-index l.position
    l.fn.names.items l.names.items
