-- An effect has its edit.
use Rattle.std.proofs.Common.{◌≡◌, ◌∙◌, Result, Ok, Err, sym, ap, subst}
use Rattle.std.specs.Prelude.{IfOk}
use Rattle.semantics.specs.Frameworks.{Framework}
use Rattle.edit_rules.specs.declared.edit.Edit.{Edit}
use Rattle.edit_rules.specs.declared.effect.Effect.{Effect}
use Rattle.edit_rules.specs.declared.effect.EditFault.{EditFault}
use Rattle.edit_rules.specs.Edits.{edit_outcome}
use Rattle.edit_rules.specs.Replay.{IsTaken, left_by}
use Rattle.edit_rules.proofs.EffectLemmas.{effect_edit}

made_taken : (f g : Framework) (edit : Edit) (effect : Effect) → edit_outcome f edit ≡ Ok (g, effect)
    → IsTaken f effect.edit effect
made_taken f g edit effect is =
    let same : effect.edit ≡ edit = effect_edit f edit (g, effect) is in
    subst (λ e. IsTaken f e effect) (sym same)
    (is ∙ ap (λ h. Ok (h, effect)) (sym (ap (left_by f) is)))

-- an edit that was made is taken, with the effect that was told
pub told_taken : (f g : Framework) (edit : Edit) (r : Result Effect EditFault)
    → IfOk r (λ effect. edit_outcome f edit ≡ Ok (g, effect)) → IfOk r (λ effect. IsTaken f effect.edit effect)
told_taken f g edit (Ok effect) is = made_taken f g edit effect is
told_taken f g edit (Err fault) is = tt
