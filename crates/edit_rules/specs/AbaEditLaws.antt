-- What edits keep of a flat assumption-based framework, and what an effect tells.
use Rattle.std.specs.Prelude.{◌≡◌, ◌≤◌, Ok}
use Rattle.semantics.specs.AbaFrameworks.{Aba, IsNumberedAba}
use Rattle.edit_rules.specs.declared.edit.Edit.{Edit}
use Rattle.edit_rules.specs.declared.effect.Effect.{Effect}
use Rattle.edit_rules.specs.AbaEdits.{aba_outcome}

-- a framework in form is in form behind an edit
abbrev pub AbaEditsKeepForm : Type 0
AbaEditsKeepForm = (f g : Aba) (edit : Edit) (effect : Effect) → IsNumberedAba f
    → aba_outcome f edit ≡ Ok (g, effect) → IsNumberedAba g

-- the number that the next rule gets never falls, so that no number is given again
abbrev pub NumbersAreGivenOnce : Type 0
NumbersAreGivenOnce = (f g : Aba) (edit : Edit) (effect : Effect) → aba_outcome f edit ≡ Ok (g, effect)
    → f.next ≤ g.next

-- the framework behind an edit and the edit's effect determine the framework before it
abbrev pub AbaEffectsDetermine : Type 0
AbaEffectsDetermine = (f g : Aba) (edit : Edit) (done : Aba × Effect) → IsNumberedAba f → IsNumberedAba g
    → aba_outcome f edit ≡ Ok done → aba_outcome g edit ≡ Ok done → f ≡ g
