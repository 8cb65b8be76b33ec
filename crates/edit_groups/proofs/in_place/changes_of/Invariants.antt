use Rattle.std.proofs.Common.{take}
use Rattle.edit_groups.specs.Changes.{AreTakenIn}
use Rattle.edit_groups.proofs.in_place.changes_of.Given as goal

-- the first edits are taken
abbrev pub invariant-loop-index : goal.invariant-loop-index
invariant-loop-index l = AreTakenIn l.plain (take l.index l.edits) l.changes
