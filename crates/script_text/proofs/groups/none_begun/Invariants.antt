use Rattle.std.proofs.Common.{◌≡◌, ℕ, ◌+◌, ◌-◌, ◌≤◌, length}
use Rattle.script_text.specs.declared.open_groups.Place.TheVariants.{Unbegun}
use Rattle.script_text.specs.declared.script.TheConstants.{MAX_SESSIONS}
use Rattle.script_text.specs.Sizes.{place_at}
use Rattle.script_text.proofs.groups.none_begun.Given as goal

-- there are no more sessions than may be, and none has had a line
abbrev pub invariant-sessions : goal.invariant-sessions
invariant-sessions l = (length l.places.items ≤ MAX_SESSIONS + 1) × ((s : ℕ) → place_at l.places.items s ≡ Unbegun)

abbrev pub decreases-sessions : goal.decreases-sessions
decreases-sessions l = MAX_SESSIONS + 1 - length l.places.items
