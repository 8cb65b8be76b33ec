use Rattle.std.proofs.Common.{◌≡◌, take}
use Rattle.edit_groups.proofs.copies.copy_effects.Given as goal

-- the effects so far
abbrev pub invariant-loop-effect : goal.invariant-loop-effect
invariant-loop-effect l = l.copies ≡ take l.effect-index l.effects
