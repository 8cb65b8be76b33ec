-- What each edit changes at the arguments, and so which axioms it calls for.
use Rattle.std.proofs.Common.{◌≡◌, ◌↔◌, ℕ, Bool, true, false, not, refl, sym, ap, subst, ◌∙◌, inl, inr, ⊎_elim, eq-eqb, eqb-true}
use Rattle.std.specs.Prelude.{Contains, ◌==◌, ◌&&◌, filter, Ok, is_ok}
use Rattle.std.proofs.lemmas.Bool.{false≢true, not-false, cases_eq}
use Rattle.lists.proofs.Filters.{Contains-filter}
use Rattle.semantics.specs.Arguments.{IsArgument}
use Rattle.semantics.specs.Framework.{Af, Attacks}
use Rattle.semantics.specs.Frameworks.{Framework, af, IsNumberedAf}
use Rattle.meaning_atoms.specs.declared.axiom.AxiomName.{AxiomName}
use Rattle.edit_rules.specs.declared.edit.Edit.{Edit}
use Rattle.edit_rules.specs.declared.edit.Edit.TheVariants.{ArgAdd, ArgDrop, AttackAdd, AttackDrop, AsmAdd, AsmDrop, ConSet, ConAdd, ConDrop, RuleAdd, RuleDrop}
use Rattle.edit_rules.specs.declared.effect.Effect.{Effect}
use Rattle.edit_rules.specs.Numbers.{has_number}
use Rattle.edit_rules.specs.Pairs.{has_pair}
use Rattle.edit_rules.specs.Edits.{af_with_argument, af_with_attack, argument_added, argument_dropped, attack_added, attack_dropped, edit_outcome, is_end}
use Rattle.edit_rules.proofs.EditWordTests.{both_gives, either_gives, either_left, number_there, there_number}
use Rattle.edit_rules.proofs.EditTests.{pair_there, there_pair, within_bounds}
use Rattle.edit_rules.proofs.RefusalLemmas.{done_passes}
use Rattle.edit_rules.proofs.ReplayLemmas.{af_of}
use Rattle.edit_rules.proofs.NumberLists.{with_number_members}
use Rattle.edit_rules.proofs.PairLists.{with_pair_members}
use Rattle.af_encoding.specs.Changes.{IsAlone, IsCalledByAttack, IsCalledByLoss, IsCalledByPairs, IsCalledFor, IsEffectOf}
use Rattle.af_encoding.proofs.ChangeLemmas.{GainsArgument, IsGainedRow, IsLostRow, IsSameRow, LosesArgument, by_argument, by_attack, by_loss, by_new_argument}
use Rattle.lists.proofs.TruthValues.{both_from}
use Rattle.meaning_atoms.proofs.Clauses.{clash, no_longer}

-- ---- an attack that comes

added_row : (f : Af) (b a : ℕ) → has_pair f.attacks (b, a) ≡ false → IsGainedRow f (af_with_attack f b a) b a
added_row f b a free = record {
  live = (λ c. c, λ c. c);
  fresh = λ c. false≢true (sym free ∙ there_pair f.attacks (b, a) c);
  now = (with_pair_members (b, a) f.attacks (b, a)).1 (inr refl);
  others = λ x other. (
    λ c. (with_pair_members (b, a) f.attacks (x, a)).1 (inl c),
    λ c. ⊎_elim (λ k. k) (λ e. absurd (other (ap (λ p. p.0) e))) ((with_pair_members (b, a) f.attacks (x, a)).0 c),
  );
}

added_others : (f : Af) (b a x : ℕ) → (x ≡ a → ⊥) → IsSameRow f (af_with_attack f b a) x
added_others f b a x other = record {
  live = (λ c. c, λ c. c);
  attacks = λ y. (
    λ c. (with_pair_members (b, a) f.attacks (y, x)).1 (inl c),
    λ c. ⊎_elim (λ k. k) (λ e. absurd (other (ap (λ p. p.1) e))) ((with_pair_members (b, a) f.attacks (y, x)).0 c),
  );
}

-- ---- an attack that goes

abbrev is_pair : ℕ → ℕ → ℕ × ℕ → Bool
is_pair b a p = p.0 == b && p.1 == a

abbrev less_attack : Af → ℕ → ℕ → Af
less_attack f b a = record { live = f.live; attacks = filter (λ p. not (is_pair b a p)) f.attacks }

kept_pair : (f : Af) (b a : ℕ) (p : ℕ × ℕ) → (p.0 ≡ b → p.1 ≡ a → ⊥) → Contains f.attacks p
    ↔ Contains (less_attack f b a).attacks p
kept_pair f b a p other = (
  λ c. (Contains-filter (λ q. not (is_pair b a q)) f.attacks p).1 (
    c,
    no_longer (is_pair b a p) (λ t.
        let both = both_gives (p.0 == b) (p.1 == a) t in other (eqb-true p.0 b both.0) (eqb-true p.1 a both.1)),
  ),
  λ c. ((Contains-filter (λ q. not (is_pair b a q)) f.attacks p).0 c).0,
)

dropped_row : (f : Af) (b a : ℕ) → has_pair f.attacks (b, a) ≡ true → IsLostRow f (less_attack f b a) b a
dropped_row f b a there = record {
  live = (λ c. c, λ c. c);
  was = pair_there f.attacks (b, a) there;
  gone = λ c. clash (is_pair b a (b, a)) (both_from (b == b) (a == a) (eq-eqb b b refl) (eq-eqb a a refl))
      ((Contains-filter (λ q. not (is_pair b a q)) f.attacks (b, a)).0 c).1;
  others = λ x other. kept_pair f b a (x, a) (λ e _. other e);
}

dropped_others : (f : Af) (b a x : ℕ) → (x ≡ a → ⊥) → IsSameRow f (less_attack f b a) x
dropped_others f b a x other = record {
  live = (λ c. c, λ c. c);
  attacks = λ y. kept_pair f b a (y, x) (λ _ e. other e);
}

-- ---- an argument that goes

abbrev less_argument : Af → ℕ → Af
less_argument f n = record {
  live = filter (λ a. not (a == n)) f.live;
  attacks = filter (λ p. not (is_end n p)) f.attacks;
}

kept_live : (f : Af) (n t : ℕ) → (t ≡ n → ⊥) → Contains f.live t ↔ Contains (less_argument f n).live t
kept_live f n t other = (
  λ c. (Contains-filter (λ a. not (a == n)) f.live t).1 (c, no_longer (t == n) (λ e. other (eqb-true t n e))),
  λ c. ((Contains-filter (λ a. not (a == n)) f.live t).0 c).0,
)

kept_attack : (f : Af) (n y t : ℕ) → (y ≡ n → ⊥) → (t ≡ n → ⊥) → Attacks f y t ↔ Attacks (less_argument f n) y t
kept_attack f n y t from to = (
  λ c. (Contains-filter (λ p. not (is_end n p)) f.attacks (y, t)).1 (
    c,
    no_longer (is_end n (y, t)) (λ e.
        ⊎_elim (λ h. from (eqb-true y n h)) (λ h. to (eqb-true t n h)) (either_gives (y == n) (t == n) e)),
  ),
  λ c. ((Contains-filter (λ p. not (is_end n p)) f.attacks (y, t)).0 c).0,
)

no_attack_by : (f : Af) (n t : ℕ) → Attacks (less_argument f n) n t → ⊥
no_attack_by f n t c =
    clash (is_end n (n, t)) (either_left (n == n) (t == n) (eq-eqb n n refl))
    ((Contains-filter (λ p. not (is_end n p)) f.attacks (n, t)).0 c).1

loses : (f : Af) (n : ℕ) → LosesArgument f (less_argument f n) n
loses f n = record {
  gone = λ c. clash (n == n) (eq-eqb n n refl) ((Contains-filter (λ a. not (a == n)) f.live n).0 c).1;
  lost = λ t other at. record {
    live = kept_live f n t other;
    was = at;
    gone = no_attack_by f n t;
    others = λ y from. kept_attack f n y t from other;
  };
  kept = λ t other none. record {
    live = kept_live f n t other;
    attacks = λ y. ⊎_elim
        (λ (e : y ≡ n). (
          λ c. absurd (none (subst (λ z. Attacks f z t) e c)),
          λ c. absurd (no_attack_by f n t (subst (λ z. Attacks (less_argument f n) z t) e c)),
        ))
        (λ from. kept_attack f n y t from other) (cases_eq y n);
  };
}

dropped_list : (f : Af) (n t : ℕ) → Contains (filter (is_end n) f.attacks) (n, t) ↔ Attacks f n t
dropped_list f n t = (
  λ c. ((Contains-filter (is_end n) f.attacks (n, t)).0 c).0,
  λ c. (Contains-filter (is_end n) f.attacks (n, t)).1 (c, either_left (n == n) (t == n) (eq-eqb n n refl)),
)

-- ---- an argument that comes

gains : (f : Af) (n : ℕ) → IsNumberedAf f → has_number f.live n ≡ false → GainsArgument f (af_with_argument f n) n
gains f n ok free =
    let fresh : Contains f.live n → ⊥ = λ c. false≢true (sym free ∙ there_number f.live n c) in
    record {
      fresh = fresh;
      now = (with_number_members n f.live n).1 (inr refl);
      none = λ x at. fresh (ok.form.ends x n at).1;
      others = λ t other. record {
        live = (
          λ c. (with_number_members n f.live t).1 (inl c),
          λ c. ⊎_elim (λ k. k) (λ e. absurd (other e)) ((with_number_members n f.live t).0 c),
        );
        attacks = λ x. (λ c. c, λ c. c);
      };
    }

-- ---- the outcomes

pub argument_called : (f g : Af) (n : ℕ) (effect : Effect) → IsNumberedAf f
    → edit_outcome (af f) (ArgAdd n) ≡ Ok (af g, effect) → (name : AxiomName)
    → IsAlone n name ↔ IsCalledFor (af f) (af g) name
argument_called f g n effect ok is name =
    let row = argument_added f n in
    let done = done_passes row.refusals (row.framework, row.effect) (af g, effect) is in
    let same : af_with_argument f n ≡ g = ap (λ d. af_of d.0) done.1 in
    subst (λ h. IsAlone n name ↔ IsCalledFor (af f) (af h) name) same
    (by_new_argument f (af_with_argument f n) n (gains f n ok done.0.1.0) name)

pub loss_called : (f g : Af) (n : ℕ) (effect : Effect) → IsNumberedAf f → IsNumberedAf g
    → edit_outcome (af f) (ArgDrop n) ≡ Ok (af g, effect) → (name : AxiomName)
    → IsCalledByPairs g n effect.dropped name ↔ IsCalledFor (af f) (af g) name
loss_called f g n effect ok ko is name =
    let row = argument_dropped f n in
    let done = done_passes row.refusals (row.framework, row.effect) (af g, effect) is in
    let same : less_argument f n ≡ g = ap (λ d. af_of d.0) done.1 in
    let pairs : filter (is_end n) f.attacks ≡ effect.dropped = ap (λ d. d.1.dropped) done.1 in
    by_argument f g ok ko n effect.dropped (subst (λ h. LosesArgument f h n) same (loses f n))
    (λ t. subst (λ ps. Contains ps (n, t) ↔ Attacks f n t) pairs (dropped_list f n t)) name

pub dropped_argument : (f g : Af) (n : ℕ) (effect : Effect) → edit_outcome (af f) (ArgDrop n) ≡ Ok (af g, effect)
    → IsArgument n
dropped_argument f g n effect is =
    let row = argument_dropped f n in
    within_bounds n (done_passes row.refusals (row.framework, row.effect) (af g, effect) is).0.0

pub attack_called : (f g : Af) (b a : ℕ) (effect : Effect) → edit_outcome (af f) (AttackAdd b a) ≡ Ok (af g, effect)
    → (name : AxiomName) → IsCalledByAttack g b a name ↔ IsCalledFor (af f) (af g) name
attack_called f g b a effect is name =
    let row = attack_added f b a in
    let done = done_passes row.refusals (row.framework, row.effect) (af g, effect) is in
    let same : af_with_attack f b a ≡ g = ap (λ d. af_of d.0) done.1 in
    subst (λ h. IsCalledByAttack h b a name ↔ IsCalledFor (af f) (af h) name) same
    (by_attack f (af_with_attack f b a) b a (added_row f b a done.0.1.1.1.1.0) (added_others f b a)
    (within_bounds b done.0.0).low (number_there f.live a (not-false (has_number f.live a) done.0.1.1.1.0)) name)

pub added_attacker : (f g : Af) (b a : ℕ) (effect : Effect) → edit_outcome (af f) (AttackAdd b a) ≡ Ok (af g, effect)
    → IsArgument b
added_attacker f g b a effect is =
    let row = attack_added f b a in
    within_bounds b (done_passes row.refusals (row.framework, row.effect) (af g, effect) is).0.0

pub drop_called : (f g : Af) (b a : ℕ) (effect : Effect) → IsNumberedAf f
    → edit_outcome (af f) (AttackDrop b a) ≡ Ok (af g, effect)
    → (name : AxiomName) → IsCalledByLoss g b a name ↔ IsCalledFor (af f) (af g) name
drop_called f g b a effect ok is name =
    let row = attack_dropped f b a in
    let done = done_passes row.refusals (row.framework, row.effect) (af g, effect) is in
    let same : less_attack f b a ≡ g = ap (λ d. af_of d.0) done.1 in
    subst (λ h. IsCalledByLoss h b a name ↔ IsCalledFor (af f) (af h) name) same
    (by_loss f (less_attack f b a) ok b a (dropped_row f b a (not-false (has_pair f.attacks (b, a)) done.0.1.1.1.1.0))
    (dropped_others f b a) (number_there f.live a (not-false (has_number f.live a) done.0.1.1.1.0)) name)

pub dropped_attacker : (f g : Af) (b a : ℕ) (effect : Effect) → edit_outcome (af f) (AttackDrop b a) ≡ Ok (af g, effect)
    → IsArgument b
dropped_attacker f g b a effect is =
    let row = attack_dropped f b a in
    within_bounds b (done_passes row.refusals (row.framework, row.effect) (af g, effect) is).0.0

-- the effect tells its own edit
pub own_edit : (f : Af) (edit : Edit) (after : Framework) (effect : Effect)
    → edit_outcome (af f) edit ≡ Ok (after, effect) → effect.edit ≡ edit
own_edit f (ArgAdd n) after effect is =
    let row = argument_added f n in
    sym (ap (λ d. d.1.edit) (done_passes row.refusals (row.framework, row.effect) (after, effect) is).1)
own_edit f (ArgDrop n) after effect is =
    let row = argument_dropped f n in
    sym (ap (λ d. d.1.edit) (done_passes row.refusals (row.framework, row.effect) (after, effect) is).1)
own_edit f (AttackAdd b a) after effect is =
    let row = attack_added f b a in
    sym (ap (λ d. d.1.edit) (done_passes row.refusals (row.framework, row.effect) (after, effect) is).1)
own_edit f (AttackDrop b a) after effect is =
    let row = attack_dropped f b a in
    sym (ap (λ d. d.1.edit) (done_passes row.refusals (row.framework, row.effect) (after, effect) is).1)
own_edit f (AsmAdd a c) after effect is = absurd (false≢true (ap is_ok is))
own_edit f (AsmDrop a) after effect is = absurd (false≢true (ap is_ok is))
own_edit f (ConSet a c) after effect is = absurd (false≢true (ap is_ok is))
own_edit f (ConAdd a c) after effect is = absurd (false≢true (ap is_ok is))
own_edit f (ConDrop a c) after effect is = absurd (false≢true (ap is_ok is))
own_edit f (RuleAdd h body) after effect is = absurd (false≢true (ap is_ok is))
own_edit f (RuleDrop r) after effect is = absurd (false≢true (ap is_ok is))

pub taken_as : (f g : Af) (effect : Effect) (edit : Edit) → IsEffectOf (af f) (af g) effect → effect.edit ≡ edit
    → edit_outcome (af f) edit ≡ Ok (af g, effect)
taken_as f g effect edit of is =
    subst (λ e. edit_outcome (af f) e ≡ Ok (af g, effect)) (sym (own_edit f of.edit (af g) effect of.taken) ∙ is)
    of.taken

-- no edit of the other kind leads to an abstract framework
pub never_taken : (f g : Af) (effect : Effect) (edit : Edit) → IsEffectOf (af f) (af g) effect → effect.edit ≡ edit
    → is_ok (edit_outcome (af f) edit) ≡ false → ⊥
never_taken f g effect edit of is refused = false≢true (sym refused ∙ ap is_ok (taken_as f g effect edit of is))
