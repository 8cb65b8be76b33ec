use Rattle.std.proofs.Common.{take}
use Rattle.edit_groups.specs.Gaining.{HasGained}
use Rattle.edit_groups.proofs.pair_lists.insert_all.Given as goal

-- the first pairs have come
abbrev pub invariant-loop-index : goal.invariant-loop-index
invariant-loop-index l = HasGained (take l.index l.pairs) l.fn.plain l.plain
