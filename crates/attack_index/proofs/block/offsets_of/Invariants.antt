use Rattle.std.proofs.Common.{◌≡◌, ◌+◌, length}
use Rattle.attack_index.proofs.OffsetLemmas.{AreFilled}
use Rattle.attack_index.proofs.block.offsets_of.Given as goal

abbrev pub invariant-loop-number : goal.invariant-loop-number
invariant-loop-number l =
    (length l.offsets.items ≡ l.width + 1) × AreFilled l.base l.pairs l.number l.most l.offsets.items
