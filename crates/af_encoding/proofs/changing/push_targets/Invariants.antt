use Rattle.std.proofs.Common.{take}
use Rattle.af_encoding.specs.Changes.{Gains, IsCalledByPairs}
use Rattle.af_encoding.proofs.changing.push_targets.Given as goal

abbrev pub invariant-loop-attack : goal.invariant-loop-attack
invariant-loop-attack l =
    Gains (IsCalledByPairs l.plain l.argument (take l.attack-index l.dropped)) l.fn.names.items l.names.items
