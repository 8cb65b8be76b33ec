use Rattle.std.proofs.Common.{◌≡◌, map, take}
use Rattle.edit_rules.specs.Effects.{plain_effect}
use Rattle.edit_groups.proofs.in_place.plain_effects.Given as goal

-- the effects so far
abbrev pub invariant-loop-edit : goal.invariant-loop-edit
invariant-loop-edit l = l.effects ≡ map plain_effect (take l.edit-index l.edits)
