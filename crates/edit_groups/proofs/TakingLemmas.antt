-- Groups that are taken edit by edit.
use Rattle.std.proofs.Common.{arith, ◌≡◌, ◌∙◌, ℕ, ◌+◌, ◌<◌, suc, List, [], ◌∷◌, ◌++◌, length, take, drop, get_or}
use Rattle.std.proofs.Common.{sym, ap, subst, Result, Ok, Err}
use Rattle.std.specs.Result.{IsErr, IsErrAnd, OnErr}
use Rattle.std.proofs.lemmas.Bool.{false≢true}
use Rattle.std.proofs.lemmas.List.{length-take-le, take-append-drop, take_more}
use Rattle.std.proofs.Math.Seq.{drop-cons}
use Rattle.semantics.specs.Frameworks.{Framework}
use Rattle.edit_rules.specs.declared.edit.Edit.{Edit}
use Rattle.edit_rules.specs.declared.effect.Effect.{Effect}
use Rattle.edit_rules.specs.declared.effect.EditFault.{EditFault}
use Rattle.edit_rules.specs.Edits.{edit_outcome}
use Rattle.edit_rules.specs.Groups.{group_told}
use Rattle.edit_rules.specs.Replay.{replay}
use Rattle.edit_rules.proofs.GroupLemmas.{one_more, refused_at}
use Rattle.edit_groups.specs.declared.taking.GroupFault.{GroupFault}
use Rattle.edit_groups.specs.Taking.{IsGroupTaken}

-- the edits up to one of them, it, and those behind it
split_at : (edits : List Edit) (index : ℕ) (edit : Edit) → index < length edits → get_or edits index edit ≡ edit
    → take index edits ++ edit ∷ drop (suc index) edits ≡ edits
split_at edits index edit lt is =
    ap (λ e. take index edits ++ e ∷ drop (suc index) edits) (sym is)
    ∙ ap (λ l. take index edits ++ l) (sym (drop-cons edits index edit lt))
    ∙ take-append-drop index edits

pub one_behind : (edits : List Edit) (index : ℕ) (edit : Edit) → index < length edits
    → get_or edits index edit ≡ edit → take (index + 1) edits ≡ take index edits ++ edit ∷ []
one_behind edits index edit lt is =
    take_more edits index edit lt ∙ ap (λ e. take index edits ++ e ∷ []) is

-- the next edit is taken, or refused
pub next_taken : (f g h : Framework) (edits : List Edit) (index : ℕ) (edit : Edit) (effects : List Effect)
    (effect : Effect) → index < length edits → get_or edits index edit ≡ edit
    → IsGroupTaken f (take index edits) effects g → edit_outcome g edit ≡ Ok (h, effect)
    → IsGroupTaken f (take (index + 1) edits) (effects ++ effect ∷ []) h
next_taken f g h edits index edit effects effect lt is taken outcome =
    let whole = one_behind edits index edit lt is in
    let more = one_more f h (take index edits) edit effects effect taken.told
    (ap (λ x. edit_outcome x edit) (sym taken.behind) ∙ outcome) in
    record {
      told = ap (group_told f) whole ∙ more.0;
      behind = sym (ap (replay f) whole ∙ more.1);
    }

pub next_refused : (f g : Framework) (edits : List Edit) (index : ℕ) (edit : Edit) (effects : List Effect)
    (fault : EditFault) → index < length edits → get_or edits index edit ≡ edit
    → IsGroupTaken f (take index edits) effects g → edit_outcome g edit ≡ Err fault
    → group_told f edits ≡ Err (index + 1, fault)
next_refused f g edits index edit effects fault lt is taken outcome =
    let long : length (take index edits) ≡ index = length-take-le index edits (omega arith) in
    ap (group_told f) (sym (split_at edits index edit lt is))
    ∙ refused_at f (take index edits) edit (drop (suc index) edits) effects fault taken.told
    (ap (λ x. edit_outcome x edit) (sym taken.behind) ∙ outcome)
    ∙ ap (λ n. Err (n + 1, fault)) long

-- what a fault that is handed on says
pub fault_handed_on : {X : Type 0} (P : Result X GroupFault → Type 0) (r : Result X GroupFault) (fault : GroupFault)
    → IsErr r × IsErrAnd r (λ x. x ≡ fault) → P (Err fault) → P r
fault_handed_on P (Ok x) fault is holds = absurd (false≢true is.0)
fault_handed_on P (Err x) fault is holds = subst (λ y. P (Err y)) (sym is.1) holds

pub on_err : {X E : Type 0} (r : Result X E) (P : Type 0) → P → OnErr r P
on_err (Ok x) P holds = tt
on_err (Err e) P holds = holds
