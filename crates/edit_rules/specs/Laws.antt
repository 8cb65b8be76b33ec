-- What edits keep, and what an effect tells.
use Rattle.std.specs.Prelude.{◌≡◌, List, ◌++◌, map, Ok}
use Rattle.semantics.specs.Frameworks.{Framework, IsNumbered}
use Rattle.edit_rules.specs.declared.edit.Edit.{Edit}
use Rattle.edit_rules.specs.declared.effect.Effect.{Effect}
use Rattle.edit_rules.specs.Edits.{edit_outcome}
use Rattle.edit_rules.specs.Groups.{group_told}
use Rattle.edit_rules.specs.Kinds.{kind_of}
use Rattle.edit_rules.specs.Replay.{AreTaken, replay}

-- a framework in form stays in form, whatever the edits
abbrev pub EditsKeepForm : Type 0
EditsKeepForm = (f : Framework) (edits : List Edit) → IsNumbered f → IsNumbered (replay f edits)

-- a framework stays of its kind, whatever the edits
abbrev pub EditsKeepKind : Type 0
EditsKeepKind = (f : Framework) (edits : List Edit) → kind_of (replay f edits) ≡ kind_of f

-- the framework behind an edit and the edit's effect determine the framework before it
abbrev pub EffectsDetermine : Type 0
EffectsDetermine = (f g : Framework) (edit : Edit) (done : Framework × Effect) → IsNumbered f → IsNumbered g
    → edit_outcome f edit ≡ Ok done → edit_outcome g edit ≡ Ok done → f ≡ g

-- where a group is taken, none of its edits is refused, and its effects are those of its edits
abbrev pub GroupsAreTakenWhole : Type 0
GroupsAreTakenWhole = (f : Framework) (edits : List Edit) (effects : List Effect) → group_told f edits ≡ Ok effects
    → AreTaken f edits × (map (λ (e : Effect). e.edit) effects ≡ edits)

-- a group that is taken behind another does what both of them do as one group
abbrev pub GroupsJoin : Type 0
GroupsJoin = (f : Framework) (edits more : List Edit) (effects others : List Effect) → group_told f edits ≡ Ok effects
    → group_told (replay f edits) more ≡ Ok others
    → (group_told f (edits ++ more) ≡ Ok (effects ++ others))
    × (replay f (edits ++ more) ≡ replay (replay f edits) more)
