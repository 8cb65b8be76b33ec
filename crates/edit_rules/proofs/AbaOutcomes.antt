-- The outcome of an edit of an assumption-based framework, as one of any framework.
use Rattle.std.proofs.Common.{Result, Ok, Err, ◌≡◌, Bool, true, false, List, [], ◌∷◌, Option, Some, None, IfOk, refl, ap, ◌∙◌, ⊎_elim, inl, inr}
use Rattle.std.specs.Prelude.{◌⊎◌, if◌then◌else◌, IfErr}
use Rattle.semantics.specs.AbaFrameworks.{Aba}
use Rattle.semantics.specs.Frameworks.{Framework, aba}
use Rattle.edit_rules.specs.declared.edit.Edit.{Edit}
use Rattle.edit_rules.specs.declared.effect.Effect.{Effect}
use Rattle.edit_rules.specs.declared.effect.EditFault.{EditFault}
use Rattle.edit_rules.specs.declared.effect.EditFault.TheVariants.{Memory}
use Rattle.edit_rules.specs.Refusals.{Refusal, done_unless}
use Rattle.edit_rules.specs.AbaEdits.{AbaRow, aba_row, aba_outcome, aba_outcome_in}
use Rattle.edit_rules.specs.declared.framework.Framework.{Framework as Held}
use Rattle.edit_rules.specs.declared.framework.Framework.TheVariants.{Aba as HeldAba}
use Rattle.edit_rules.specs.Kinds.{framework_of}
use Rattle.edit_rules.specs.Edits.{any_row, edit_outcome, outcome_in}

abbrev pub any_outcome : Result (Aba × Effect) EditFault → Result (Framework × Effect) EditFault
any_outcome (Ok done) = Ok (aba done.0, done.1)
any_outcome (Err fault) = Err fault

-- one refusal more
one_more : (b : Bool) (fault : EditFault) (a : Result (Framework × Effect) EditFault)
    (c : Result (Aba × Effect) EditFault) → a ≡ any_outcome c
    → (if b then Err fault else a) ≡ any_outcome (if b then Err fault else c)
one_more true fault a c same = refl
one_more false fault a c same = same

refused_alike : (rs : List Refusal) (f : Aba) (effect : Effect)
    → done_unless rs (aba f, effect) ≡ any_outcome (done_unless rs (f, effect))
refused_alike [] f effect = refl
refused_alike (r ∷ more) f effect =
    one_more r.stands r.fault (done_unless more (aba f, effect)) (done_unless more (f, effect))
    (refused_alike more f effect)

row_alike : (row : Option AbaRow) → outcome_in (any_row row) ≡ any_outcome (aba_outcome_in row)
row_alike None = refl
row_alike (Some row) = refused_alike row.refusals row.framework row.effect

pub aba_edit_outcome : (f : Aba) (edit : Edit) → edit_outcome (aba f) edit ≡ any_outcome (aba_outcome f edit)
aba_edit_outcome f edit = row_alike (aba_row f edit)

held_outcome : (held : Held) (f : Aba) (edit : Edit) → held ≡ HeldAba f
    → edit_outcome (framework_of held) edit ≡ any_outcome (aba_outcome f edit)
held_outcome held f edit is = ap (λ h. edit_outcome (framework_of h) edit) is ∙ aba_edit_outcome f edit

-- what the edit of an assumption-based framework answers is its outcome as an edit of any framework
pub aba_done : (held : Held) (f g : Aba) (edit : Edit) (result : Result Effect EditFault) → held ≡ HeldAba f
    → IfOk result (λ effect. aba_outcome f edit ≡ Ok (g, effect))
    → IfOk result (λ effect. edit_outcome (framework_of held) edit ≡ Ok (aba g, effect))
aba_done held f g edit (Ok effect) is done = held_outcome held f edit is ∙ ap any_outcome done
aba_done held f g edit (Err fault) is done = done

pub aba_refused : (held : Held) (f : Aba) (edit : Edit) (result : Result Effect EditFault) → held ≡ HeldAba f
    → IfErr result (λ fault. (fault ≡ Memory) ⊎ (aba_outcome f edit ≡ Err fault))
    → IfErr result (λ fault. (fault ≡ Memory) ⊎ (edit_outcome (framework_of held) edit ≡ Err fault))
aba_refused held f edit (Ok effect) is told = told
aba_refused held f edit (Err fault) is told =
    ⊎_elim (λ memory. inl memory) (λ refused. inr (held_outcome held f edit is ∙ ap any_outcome refused)) told
