-- A framework after a list of edits.
use Rattle.std.specs.Prelude.{◌≡◌, List, [], ◌∷◌, Result, Ok, Err}
use Rattle.semantics.specs.Frameworks.{Framework}
use Rattle.edit_rules.specs.declared.edit.Edit.{Edit}
use Rattle.edit_rules.specs.declared.effect.Effect.{Effect}
use Rattle.edit_rules.specs.declared.effect.EditFault.{EditFault}
use Rattle.edit_rules.specs.Edits.{edit_outcome}

-- the framework that an outcome leaves: an edit that is refused leaves it as it was
abbrev pub left_by : Framework → Result (Framework × Effect) EditFault → Framework
left_by f (Ok done) = done.0
left_by f (Err fault) = f

-- the framework after an edit
abbrev pub after_edit : Framework → Edit → Framework
after_edit f edit = left_by f (edit_outcome f edit)

-- the framework after the edits of a list, one by one
abbrev pub replay : Framework → List Edit → Framework
replay f [] = f
replay f (edit ∷ more) = replay (after_edit f edit) more

-- the edit is taken, with this effect
abbrev pub IsTaken : Framework → Edit → Effect → Type 0
IsTaken f edit effect = edit_outcome f edit ≡ Ok (after_edit f edit, effect)

-- none of the edits is refused
abbrev pub AreTaken : Framework → List Edit → Type 0
AreTaken f [] = Unit
AreTaken f (edit ∷ more) = ((effect : Effect) × IsTaken f edit effect) × AreTaken (after_edit f edit) more
