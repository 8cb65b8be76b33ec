-- What edits keep of a framework, and what the framework and the effect behind an edit tell of the framework before.
use Rattle.std.proofs.Common.{Result, Ok, Err, ◌≡◌, true, false, Bool, List, [], ◌∷◌, ℕ, sym, ◌∙◌, ap, subst, refl}
use Rattle.std.specs.Prelude.{Contains, ◌==◌, ◌<◌, is_ok}
use Rattle.std.proofs.lemmas.Bool.{false≢true, cond_both, not-false, eqb-true}
use Rattle.std.proofs.lemmas.List.Kept.{AllPairs-from_increasing}
use Rattle.lists.proofs.Filters.{Contains-filter}
use Rattle.semantics.specs.Framework.{Af}
use Rattle.semantics.specs.AbaFrameworks.{Aba, IsNumberedAba}
use Rattle.semantics.specs.Frameworks.{Framework, af, aba, IsNumbered, IsNumberedAf}
use Rattle.edit_rules.specs.declared.edit.Edit.{Edit}
use Rattle.edit_rules.specs.declared.edit.Edit.TheVariants.{ArgAdd, ArgDrop, AttackAdd, AttackDrop, AsmAdd, AsmDrop, ConSet, ConAdd, ConDrop, RuleAdd, RuleDrop}
use Rattle.edit_rules.specs.declared.effect.Effect.{Effect}
use Rattle.edit_rules.specs.declared.effect.EditFault.{EditFault}
use Rattle.edit_rules.specs.Numbers.{has_number}
use Rattle.edit_rules.specs.Refusals.{Refusal, done_unless}
use Rattle.edit_rules.specs.Edits.{edit_outcome, is_end, argument_added, argument_dropped, attack_added, attack_dropped}
use Rattle.edit_rules.specs.Pairs.{has_pair}
use Rattle.edit_rules.specs.Kinds.{kind_of}
use Rattle.edit_rules.specs.Replay.{after_edit, left_by, replay}
use Rattle.edit_rules.proofs.EditWordTests.{absent, number_there}
use Rattle.edit_rules.proofs.EditTests.{pair_there, within_bounds}
use Rattle.edit_rules.proofs.NumberLists.{equal_members, from_parts, without_number}
use Rattle.edit_rules.proofs.RefusalLemmas.{EachPasses, done_passes}
use Rattle.edit_rules.proofs.RowForms.{with_argument_form, without_argument_form, with_attack_form, without_attack_form}
use Rattle.edit_rules.proofs.PairLists.{before_gain, before_loss}
use Rattle.edit_rules.proofs.SameFrameworks.{same_framework}
use Rattle.edit_rules.proofs.AbaOutcomes.{any_outcome, aba_edit_outcome}
use Rattle.edit_rules.specs.AbaEdits.{aba_outcome}
use Rattle.edit_rules.proofs.LawLemmas.{keeps_form}
use Rattle.edit_rules.proofs.DetermineLemmas.{determined as aba_determined}
use Rattle.lists.proofs.RisingLists.{numbers_asymmetric, same_lists}

-- what holds of a framework, and of the one behind a row of which none stands, holds of what the row leaves
after_row : (P : Framework → Type 0) (f : Framework) (rs : List Refusal) (done : Framework × Effect) → P f
    → (EachPasses rs → P done.0) → P (left_by f (done_unless rs done))
after_row P f [] done before behind = behind tt
after_row P f (r ∷ more) done before behind =
    cond_both r.stands (Err r.fault) (done_unless more done) (λ o. P (left_by f o)) (λ _. before)
    (λ fails. after_row P f more done before (λ rest. behind (fails, rest)))

after_edit_form : (f : Af) (edit : Edit) → IsNumberedAf f → IsNumbered (after_edit (af f) edit)
after_edit_form f (ArgAdd n) ok =
    let row = argument_added f n in
    after_row IsNumbered (af f) row.refusals (row.framework, row.effect) ok
    (λ none. with_argument_form f n ok (within_bounds n none.0))
after_edit_form f (ArgDrop n) ok =
    let row = argument_dropped f n in
    after_row IsNumbered (af f) row.refusals (row.framework, row.effect) ok (λ none. without_argument_form f n ok)
after_edit_form f (AttackAdd b a) ok =
    let row = attack_added f b a in
    after_row IsNumbered (af f) row.refusals (row.framework, row.effect) ok
    (λ none. with_attack_form f b a ok (
      number_there f.live b (not-false (has_number f.live b) none.1.1.0),
      number_there f.live a (not-false (has_number f.live a) none.1.1.1.0),
    ))
after_edit_form f (AttackDrop b a) ok =
    let row = attack_dropped f b a in
    after_row IsNumbered (af f) row.refusals (row.framework, row.effect) ok (λ none. without_attack_form f b a ok)
after_edit_form f (AsmAdd a c) ok = ok
after_edit_form f (AsmDrop a) ok = ok
after_edit_form f (ConSet a c) ok = ok
after_edit_form f (ConAdd a c) ok = ok
after_edit_form f (ConDrop a c) ok = ok
after_edit_form f (RuleAdd h body) ok = ok
after_edit_form f (RuleDrop r) ok = ok

-- what holds of an assumption-based framework, and of the one behind an edit of it, holds of what the edit leaves
left_in_form : (f : Aba) (outcome : Result (Aba × Effect) EditFault) → IsNumberedAba f
    → ((done : Aba × Effect) → outcome ≡ Ok done → IsNumberedAba done.0)
    → IsNumbered (left_by (aba f) (any_outcome outcome))
left_in_form f (Ok done) ok behind = behind done refl
left_in_form f (Err fault) ok behind = ok

after_aba_edit_form : (f : Aba) (edit : Edit) → IsNumberedAba f → IsNumbered (after_edit (aba f) edit)
after_aba_edit_form f edit ok =
    subst (λ o. IsNumbered (left_by (aba f) o)) (sym (aba_edit_outcome f edit))
    (left_in_form f (aba_outcome f edit) ok (λ done is. keeps_form f done.0 edit done.1 ok is))

after_any_edit_form : (f : Framework) (edit : Edit) → IsNumbered f → IsNumbered (after_edit f edit)
after_any_edit_form (af f) edit ok = after_edit_form f edit ok
after_any_edit_form (aba f) edit ok = after_aba_edit_form f edit ok

pub edits_keep : (f : Framework) (edits : List Edit) → IsNumbered f → IsNumbered (replay f edits)
edits_keep f [] ok = ok
edits_keep f (edit ∷ more) ok = edits_keep (after_edit f edit) more (after_any_edit_form f edit ok)

-- the abstract framework that a framework is, or one without arguments
abbrev pub af_of : Framework → Af
af_of (af f) = f
af_of (aba f) = record { live = []; attacks = [] }

live_same : (f g : Af) → IsNumberedAf f → IsNumberedAf g → ((x : ℕ) → Contains f.live x → Contains g.live x)
    → ((x : ℕ) → Contains g.live x → Contains f.live x) → f.live ≡ g.live
live_same f g ok ko there back = same_lists (λ (a b : ℕ). a < b) numbers_asymmetric f.live g.live
    (AllPairs-from_increasing f.live ok.form.live_rises) (AllPairs-from_increasing g.live ko.form.live_rises)
    (λ x. (there x, back x))

determined : (f g : Af) (edit : Edit) (done : Framework × Effect) → IsNumberedAf f → IsNumberedAf g
    → edit_outcome (af f) edit ≡ Ok done → edit_outcome (af g) edit ≡ Ok done → f ≡ g
determined f g (ArgAdd n) done ok ko of_f of_g =
    let row = argument_added f n in let wor = argument_added g n in
    let a = done_passes row.refusals (row.framework, row.effect) done of_f in
    let b = done_passes wor.refusals (wor.framework, wor.effect) done of_g in
    let same = ap (λ d. af_of d.0) (a.1 ∙ sym b.1) in
    let lives = ap (λ h. h.live) same in
    same_framework f g ok.form ko.form (live_same f g ok ko
    (without_number n f.live g.live lives (absent f.live n a.0.1.0))
    (without_number n g.live f.live (sym lives) (absent g.live n b.0.1.0)))
    (equal_members f.attacks g.attacks (ap (λ h. h.attacks) same))
determined f g (ArgDrop n) done ok ko of_f of_g =
    let row = argument_dropped f n in let wor = argument_dropped g n in
    let a = done_passes row.refusals (row.framework, row.effect) done of_f in
    let b = done_passes wor.refusals (wor.framework, wor.effect) done of_g in
    let same = ap (λ d. af_of d.0) (a.1 ∙ sym b.1) in
    let lives = ap (λ h. h.live) same in
    let kept = ap (λ h. h.attacks) same in
    let dropped = ap (λ d. d.1.dropped) (a.1 ∙ sym b.1) in
    same_framework f g ok.form ko.form (live_same f g ok ko
    (from_parts (λ x. x == n) f.live g.live lives (λ x c t. subst (λ z. Contains g.live z) (sym (eqb-true x n t))
    (number_there g.live n (not-false (has_number g.live n) b.0.1.0))))
    (from_parts (λ x. x == n) g.live f.live (sym lives) (λ x c t. subst (λ z. Contains f.live z) (sym (eqb-true x n t))
    (number_there f.live n (not-false (has_number f.live n) a.0.1.0)))))
    (λ p. (
      from_parts (is_end n) f.attacks g.attacks kept (λ q c t. ((Contains-filter (is_end n) g.attacks q).0
          (subst (λ zs. Contains zs q) dropped ((Contains-filter (is_end n) f.attacks q).1 (c, t)))).0) p,
      from_parts (is_end n) g.attacks f.attacks (sym kept) (λ q c t. ((Contains-filter (is_end n) f.attacks q).0
          (subst (λ zs. Contains zs q) (sym dropped) ((Contains-filter (is_end n) g.attacks q).1 (c, t)))).0) p,
    ))
determined f g (AttackAdd b a) done ok ko of_f of_g =
    let row = attack_added f b a in let wor = attack_added g b a in
    let x = done_passes row.refusals (row.framework, row.effect) done of_f in
    let y = done_passes wor.refusals (wor.framework, wor.effect) done of_g in
    let same = ap (λ d. af_of d.0) (x.1 ∙ sym y.1) in
    let attacks = ap (λ h. h.attacks) same in
    same_framework f g ok.form ko.form (ap (λ h. h.live) same) (λ p. (
      before_gain (b, a) f.attacks g.attacks attacks x.0.1.1.1.1.0 p,
      before_gain (b, a) g.attacks f.attacks (sym attacks) y.0.1.1.1.1.0 p,
    ))
determined f g (AttackDrop b a) done ok ko of_f of_g =
    let row = attack_dropped f b a in let wor = attack_dropped g b a in
    let x = done_passes row.refusals (row.framework, row.effect) done of_f in
    let y = done_passes wor.refusals (wor.framework, wor.effect) done of_g in
    let same = ap (λ d. af_of d.0) (x.1 ∙ sym y.1) in
    let kept = ap (λ h. h.attacks) same in
    same_framework f g ok.form ko.form (ap (λ h. h.live) same) (λ p. (
      before_loss (b, a) f.attacks g.attacks kept
          (pair_there g.attacks (b, a) (not-false (has_pair g.attacks (b, a)) y.0.1.1.1.1.0)) p,
      before_loss (b, a) g.attacks f.attacks (sym kept)
          (pair_there f.attacks (b, a) (not-false (has_pair f.attacks (b, a)) x.0.1.1.1.1.0)) p,
    ))
determined f g (AsmAdd a c) done ok ko of_f of_g = absurd (false≢true (ap is_ok of_f))
determined f g (AsmDrop a) done ok ko of_f of_g = absurd (false≢true (ap is_ok of_f))
determined f g (ConSet a c) done ok ko of_f of_g = absurd (false≢true (ap is_ok of_f))
determined f g (ConAdd a c) done ok ko of_f of_g = absurd (false≢true (ap is_ok of_f))
determined f g (ConDrop a c) done ok ko of_f of_g = absurd (false≢true (ap is_ok of_f))
determined f g (RuleAdd h body) done ok ko of_f of_g = absurd (false≢true (ap is_ok of_f))
determined f g (RuleDrop r) done ok ko of_f of_g = absurd (false≢true (ap is_ok of_f))

-- ---- frameworks of both kinds

-- an edit leaves a framework of its kind
abbrev is_af : Framework → Bool
is_af (af f) = true
is_af (aba f) = false

af_stays : (f : Af) (edit : Edit) (done : Framework × Effect) → edit_outcome (af f) edit ≡ Ok done
    → is_af done.0 ≡ true
af_stays f (ArgAdd n) done is =
    let row = argument_added f n in
    sym (ap (λ d. is_af d.0) (done_passes row.refusals (row.framework, row.effect) done is).1)
af_stays f (ArgDrop n) done is =
    let row = argument_dropped f n in
    sym (ap (λ d. is_af d.0) (done_passes row.refusals (row.framework, row.effect) done is).1)
af_stays f (AttackAdd b a) done is =
    let row = attack_added f b a in
    sym (ap (λ d. is_af d.0) (done_passes row.refusals (row.framework, row.effect) done is).1)
af_stays f (AttackDrop b a) done is =
    let row = attack_dropped f b a in
    sym (ap (λ d. is_af d.0) (done_passes row.refusals (row.framework, row.effect) done is).1)
af_stays f (AsmAdd a c) done is = absurd (false≢true (ap is_ok is))
af_stays f (AsmDrop a) done is = absurd (false≢true (ap is_ok is))
af_stays f (ConSet a c) done is = absurd (false≢true (ap is_ok is))
af_stays f (ConAdd a c) done is = absurd (false≢true (ap is_ok is))
af_stays f (ConDrop a c) done is = absurd (false≢true (ap is_ok is))
af_stays f (RuleAdd h body) done is = absurd (false≢true (ap is_ok is))
af_stays f (RuleDrop r) done is = absurd (false≢true (ap is_ok is))

-- the assumption-based framework that a framework is, or else another
abbrev aba_or : Aba → Framework → Aba
aba_or d (af f) = d
aba_or d (aba f) = f

abbrev done_or : Framework × Effect → Result (Framework × Effect) EditFault → Framework × Effect
done_or d (Ok done) = done
done_or d (Err fault) = d

-- what an edit of an assumption-based framework did
done_aba : (outcome : Result (Aba × Effect) EditFault) (done : Framework × Effect) → any_outcome outcome ≡ Ok done
    → (made : Aba × Effect) × (outcome ≡ Ok made) × ((aba made.0, made.1) ≡ done)
done_aba (Ok made) done is = (made, refl, ap (done_or done) is)
done_aba (Err fault) done is = absurd (false≢true (ap is_ok is))

edit_done : (f : Aba) (edit : Edit) (done : Framework × Effect) → edit_outcome (aba f) edit ≡ Ok done
    → (made : Aba × Effect) × (aba_outcome f edit ≡ Ok made) × ((aba made.0, made.1) ≡ done)
edit_done f edit done is = done_aba (aba_outcome f edit) done (sym (aba_edit_outcome f edit) ∙ is)

both_aba : (f g : Aba) (edit : Edit) (done : Framework × Effect) → IsNumberedAba f → IsNumberedAba g
    → edit_outcome (aba f) edit ≡ Ok done → edit_outcome (aba g) edit ≡ Ok done → f ≡ g
both_aba f g edit done ok ko of_f of_g =
    let x = edit_done f edit done of_f in
    let y = edit_done g edit done of_g in
    let same = ap (λ (d : Framework × Effect). (aba_or f d.0, d.1)) (y.2 ∙ sym x.2) in
    aba_determined f g edit x.0 ok ko x.1 (y.1 ∙ ap Ok same)

not_both : (f : Af) (g : Aba) (edit : Edit) (done : Framework × Effect) → edit_outcome (af f) edit ≡ Ok done
    → edit_outcome (aba g) edit ≡ Ok done → ⊥
not_both f g edit done of_f of_g =
    false≢true (ap (λ d. is_af d.0) (edit_done g edit done of_g).2 ∙ af_stays f edit done of_f)

kind_behind : (f : Framework) (edit : Edit) (done : Framework × Effect) → edit_outcome f edit ≡ Ok done
    → kind_of done.0 ≡ kind_of f
kind_behind (af f) edit (af g, effect) is = refl
kind_behind (af f) edit (aba g, effect) is = absurd (false≢true (af_stays f edit (aba g, effect) is))
kind_behind (aba f) edit done is = sym (ap (λ d. kind_of d.0) (edit_done f edit done is).2)

kind_left : (f : Framework) (edit : Edit) (outcome : Result (Framework × Effect) EditFault)
    → edit_outcome f edit ≡ outcome → kind_of (left_by f outcome) ≡ kind_of f
kind_left f edit (Ok done) is = kind_behind f edit done is
kind_left f edit (Err fault) is = refl

pub kind_stays : (f : Framework) (edits : List Edit) → kind_of (replay f edits) ≡ kind_of f
kind_stays f [] = refl
kind_stays f (edit ∷ more) = kind_stays (after_edit f edit) more ∙ kind_left f edit (edit_outcome f edit) refl

pub effects_tell : (f g : Framework) (edit : Edit) (done : Framework × Effect) → IsNumbered f → IsNumbered g
    → edit_outcome f edit ≡ Ok done → edit_outcome g edit ≡ Ok done → f ≡ g
effects_tell (af f) (af g) edit done ok ko of_f of_g = ap af (determined f g edit done ok ko of_f of_g)
effects_tell (aba f) (aba g) edit done ok ko of_f of_g = ap aba (both_aba f g edit done ok ko of_f of_g)
effects_tell (af f) (aba g) edit done ok ko of_f of_g = absurd (not_both f g edit done of_f of_g)
effects_tell (aba f) (af g) edit done ok ko of_f of_g = absurd (not_both g f edit done of_g of_f)
