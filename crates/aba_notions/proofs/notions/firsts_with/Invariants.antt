use Rattle.std.specs.Prelude.{Contains}
use Rattle.aba_notions.proofs.AttackLemmas.{HasFirsts}
use Rattle.aba_notions.proofs.notions.firsts_with.Given as goal

abbrev pub invariant-loop-pair : goal.invariant-loop-pair
invariant-loop-pair l = HasFirsts l.pairs (Contains l.seconds) l.pair-index l.found.items
