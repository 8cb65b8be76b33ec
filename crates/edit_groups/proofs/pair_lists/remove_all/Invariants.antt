use Rattle.std.proofs.Common.{take}
use Rattle.edit_groups.specs.Gaining.{HasLost}
use Rattle.edit_groups.proofs.pair_lists.remove_all.Given as goal

-- the first pairs are gone
abbrev pub invariant-loop-pair : goal.invariant-loop-pair
invariant-loop-pair l = HasLost (take l.pair-index l.pairs) l.fn.plain l.plain
