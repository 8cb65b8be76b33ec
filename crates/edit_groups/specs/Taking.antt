-- What comes of a group of edits.
use Rattle.std.specs.Prelude.{◌≡◌, ◌⊎◌, ℕ, List, Ok, Err}
use Rattle.semantics.specs.Frameworks.{Framework}
use Rattle.edit_rules.specs.declared.edit.Edit.{Edit}
use Rattle.edit_rules.specs.declared.effect.Effect.{Effect}
use Rattle.edit_rules.specs.declared.effect.EditFault.{EditFault}
use Rattle.edit_rules.specs.declared.effect.EditFault.TheVariants.{Memory as NoMemory}
use Rattle.edit_rules.specs.Groups.{group_told}
use Rattle.edit_rules.specs.Replay.{replay}
use Rattle.edit_groups.specs.declared.taking.GroupFault.{GroupFault}
use Rattle.edit_groups.specs.declared.taking.GroupFault.TheVariants.{Edit as Refused, Memory}

-- the edit at this place, counted from 1, is the first that is refused, and so, or memory was
abbrev pub IsRefusedAt : Framework → List Edit → ℕ → EditFault → Type 0
IsRefusedAt f edits place fault = (fault ≡ NoMemory) ⊎ (group_told f edits ≡ Err (place, fault))

-- the group is refused so, or memory was
abbrev pub IsGroupFault : Framework → List Edit → GroupFault → Type 0
IsGroupFault f edits (Refused place fault) = group_told f edits ≡ Err (place, fault)
IsGroupFault f edits Memory = Unit {0}

-- the group is taken, with these effects, and leaves the framework g
pub record IsGroupTaken (f : Framework) (edits : List Edit) (effects : List Effect) (g : Framework) : Type 0 where
  pub told : group_told f edits ≡ Ok effects
  pub behind : g ≡ replay f edits
