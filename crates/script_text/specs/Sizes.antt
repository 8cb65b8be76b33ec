-- How many edits a group may have.
use Rattle.std.specs.Prelude.{◌≡◌, ℕ, ◌<◌, ◌≤◌, List, get_or, length}
use Rattle.edit_rules.specs.declared.edit.Edit.{Edit}
use Rattle.edit_rules.specs.declared.edit.TheConstants.{MAX_GROUP}
use Rattle.script_text.specs.declared.open_groups.Place.{Place}
use Rattle.script_text.specs.declared.open_groups.Place.TheVariants.{Unbegun, Inside}

-- there is an edit, and there aren't too many
abbrev pub HasGroupSize : List Edit → Type 0
HasGroupSize edits = (0 < length edits) × (length edits ≤ MAX_GROUP)

-- where the session of an index stands; it has had no line where there is no index
abbrev pub place_at : List Place → ℕ → Place
place_at places s = get_or places s Unbegun

-- no group has too many edits
abbrev pub AreSmall : List Place → Type 0
AreSmall places = (s : ℕ) (edits : List Edit) → place_at places s ≡ Inside edits → length edits ≤ MAX_GROUP
