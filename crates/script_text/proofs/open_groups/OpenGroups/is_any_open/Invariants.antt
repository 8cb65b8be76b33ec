use Rattle.std.proofs.Common.{◌≡◌, ℕ, ◌<◌, List}
use Rattle.edit_rules.specs.declared.edit.Edit.{Edit}
use Rattle.script_text.specs.declared.open_groups.Place.TheVariants.{Inside}
use Rattle.script_text.specs.Sizes.{place_at}
use Rattle.script_text.proofs.open_groups.OpenGroups.is_any_open.Given as goal

-- no session so far is inside a group
abbrev pub invariant-loop-place : goal.invariant-loop-place
invariant-loop-place l = (k : ℕ) (edits : List Edit) → k < l.place-index → place_at l.places k ≡ Inside edits → ⊥
