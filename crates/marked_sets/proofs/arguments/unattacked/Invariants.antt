use Rattle.marked_sets.proofs.UnattackedLemmas.{AreFirstUnattacked}
use Rattle.marked_sets.proofs.arguments.unattacked.Given as goal

abbrev pub invariant-loop-argument : goal.invariant-loop-argument
invariant-loop-argument l = AreFirstUnattacked l.plain l.plain.live l.argument-index l.found.items
