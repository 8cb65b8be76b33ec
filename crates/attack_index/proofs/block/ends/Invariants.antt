use Rattle.std.proofs.Common.{◌≡◌, ◌+◌, length}
use Rattle.attack_index.proofs.OffsetLemmas.{AreEnds}
use Rattle.attack_index.proofs.block.ends.Given as goal

abbrev pub invariant-loop-index : goal.invariant-loop-index
invariant-loop-index l = (length l.ends.items ≡ l.width + 1) × AreEnds l.base l.pairs l.index l.ends.items
