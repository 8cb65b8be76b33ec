use Rattle.std.proofs.Common.{take}
use Rattle.edit_rules.specs.Kinds.{framework_of}
use Rattle.edit_groups.specs.Taking.{IsGroupTaken}
use Rattle.edit_groups.proofs.in_copy.apply_each.Given as goal

-- the first edits are taken
abbrev pub invariant-loop-index : goal.invariant-loop-index
invariant-loop-index l =
    IsGroupTaken (framework_of l.fn.framework) (take l.index l.edits) l.effects (framework_of l.framework)
