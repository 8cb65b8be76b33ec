use Rattle.dung_notions.proofs.RangeLemmas.{HasSeconds}
use Rattle.set_tests.proofs.attacks.add_targets.Given as goal

abbrev pub invariant-loop-pair : goal.invariant-loop-pair
invariant-loop-pair l = HasSeconds l.targets l.pair-index l.initial.found.items l.found.items
