-- The frameworks behind the edits are in form, and which members their lists have.
use Rattle.std.proofs.Common.{◌≡◌, ℕ, true, not, ap, sym, ◌∙◌, subst, ⊎_elim, inl}
use Rattle.std.specs.Prelude.{◌&&◌, ◌==◌, Contains, filter}
use Rattle.std.proofs.lemmas.Bool.{true≢false, not-true, not_from_false}
use Rattle.std.proofs.lemmas.List.Kept.{AllPairs-filter, IsStrictlyIncreasing-filter}
use Rattle.lists.proofs.Filters.{Contains-filter}
use Rattle.semantics.specs.Arguments.{IsArgument}
use Rattle.semantics.specs.Framework.{Af, IsPairBefore}
use Rattle.semantics.specs.Frameworks.{IsNumberedAf}
use Rattle.edit_rules.specs.Edits.{af_with_argument, af_with_attack, is_end}
use Rattle.edit_rules.proofs.PairLists.{with_pair_members, with_pair_rises}
use Rattle.edit_rules.proofs.NumberLists.{with_number_members, with_number_rises}
use Rattle.edit_rules.proofs.EditWordTests.{either_left, is_false}
use Rattle.lists.proofs.TruthValues.{either_right}

pub with_argument_form : (f : Af) (n : ℕ) → IsNumberedAf f → IsArgument n
    → IsNumberedAf (af_with_argument f n)
with_argument_form f n ok is = record {
  form = record {
    live_rises = with_number_rises n f.live ok.form.live_rises;
    attacks_rise = ok.form.attacks_rise;
    ends = λ b a c. let ends = ok.form.ends b a c in
        ((with_number_members n f.live b).1 (inl ends.0), (with_number_members n f.live a).1 (inl ends.1));
  };
  live = λ a c. ⊎_elim (λ h. ok.live a h) (λ (e : a ≡ n). subst (λ x. IsArgument x) (sym e) is)
      ((with_number_members n f.live a).0 c);
}

-- an attack that stays has ends which stay
not_end : (n b a : ℕ) → not (is_end n (b, a)) ≡ true → (not (b == n) ≡ true) × (not (a == n) ≡ true)
not_end n b a h =
    let e = not-true (is_end n (b, a)) h in (
      not_from_false (b == n) (is_false (b == n) (λ t. true≢false (sym (either_left (b == n) (a == n) t) ∙ e))),
      not_from_false (a == n) (is_false (a == n) (λ t. true≢false (sym (either_right (b == n) (a == n) t) ∙ e))),
    )

pub without_argument_form : (f : Af) (n : ℕ) → IsNumberedAf f → IsNumberedAf (record {
  live = filter (λ a. not (a == n)) f.live;
  attacks = filter (λ p. not (is_end n p)) f.attacks;
})
without_argument_form f n ok = record {
  form = record {
    live_rises = IsStrictlyIncreasing-filter (λ a. not (a == n)) f.live ok.form.live_rises;
    attacks_rise = AllPairs-filter IsPairBefore (λ p. not (is_end n p)) f.attacks ok.form.attacks_rise;
    ends = λ b a c.
        let h = (Contains-filter (λ p. not (is_end n p)) f.attacks (b, a)).0 c in
        let ends = ok.form.ends b a h.0 in
        let free = not_end n b a h.1 in (
          (Contains-filter (λ a. not (a == n)) f.live b).1 (ends.0, free.0),
          (Contains-filter (λ a. not (a == n)) f.live a).1 (ends.1, free.1),
        );
  };
  live = λ a c. ok.live a ((Contains-filter (λ a. not (a == n)) f.live a).0 c).0;
}

pub with_attack_form : (f : Af) (b a : ℕ) → IsNumberedAf f → Contains f.live b × Contains f.live a
    → IsNumberedAf (af_with_attack f b a)
with_attack_form f b a ok live = record {
  form = record {
    live_rises = ok.form.live_rises;
    attacks_rise = with_pair_rises (b, a) f.attacks ok.form.attacks_rise;
    ends = λ x y c. ⊎_elim (λ h. ok.form.ends x y h) (λ (e : (x, y) ≡ (b, a)). (
      subst (λ z. Contains f.live z) (sym (ap (λ (p : ℕ × ℕ). p.0) e)) live.0,
      subst (λ z. Contains f.live z) (sym (ap (λ (p : ℕ × ℕ). p.1) e)) live.1,
    ))
        ((with_pair_members (b, a) f.attacks (x, y)).0 c);
  };
  live = ok.live;
}

pub without_attack_form : (f : Af) (b a : ℕ) → IsNumberedAf f → IsNumberedAf (record {
  live = f.live;
  attacks = filter (λ p. not (p.0 == b && p.1 == a)) f.attacks;
})
without_attack_form f b a ok = record {
  form = record {
    live_rises = ok.form.live_rises;
    attacks_rise = AllPairs-filter IsPairBefore (λ p. not (p.0 == b && p.1 == a)) f.attacks ok.form.attacks_rise;
    ends = λ x y c. ok.form.ends x y ((Contains-filter (λ p. not (p.0 == b && p.1 == a)) f.attacks (x, y)).0 c).0;
  };
  live = ok.live;
}
