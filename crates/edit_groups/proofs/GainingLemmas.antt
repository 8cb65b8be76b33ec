-- Attacks that come or go together.
use Rattle.std.proofs.Common.{◌≡◌, ◌∙◌, ℕ, ◌+◌, ◌<◌, List, [], ◌∷◌, ◌++◌, length, take, drop, get_or, refl, sym}
use Rattle.std.proofs.Common.{ap, subst}
use Rattle.std.proofs.Common.{inl, inr, ⊎_elim}
use Rattle.std.specs.Prelude.{◌⊎◌, ◌↔◌, Contains}
use Rattle.std.proofs.lemmas.List.{take-append-drop, take_more}
use Rattle.std.proofs.lemmas.List.Elements.{Contains-append_left, Contains-push, Contains-push_cases}
use Rattle.lists.proofs.Membership.{Contains-cons_cases, Contains-head, Contains-nil}
use Rattle.semantics.specs.Framework.{Af}
use Rattle.semantics.specs.Frameworks.{IsNumberedAf}
use Rattle.edit_rules.specs.attack_index.specs.Changes.{GainsPair, LosesPair}
use Rattle.edit_rules.proofs.SameFrameworks.{same_framework}
use Rattle.edit_groups.specs.Gaining.{HasGained, HasLost}

-- one pair more of a list
next_pair : (pairs : List (ℕ × ℕ)) (i : ℕ) (p q : ℕ × ℕ) → i < length pairs → get_or pairs i (0, 0) ≡ p
    → Contains (take (i + 1) pairs) q ↔ (Contains (take i pairs) q ⊎ (p ≡ q))
next_pair pairs i p q lt is =
    let whole : take (i + 1) pairs ≡ take i pairs ++ p ∷ [] =
    take_more pairs i (0, 0) lt ∙ ap (λ x. take i pairs ++ x ∷ []) is in (
      λ c. Contains-push_cases (take i pairs) p q (subst (λ xs. Contains xs q) whole c),
      λ c. subst (λ xs. Contains xs q) (sym whole)
          (⊎_elim (λ l. Contains-append_left (take i pairs) (p ∷ []) q l)
          (λ (e : p ≡ q). subst (λ x. Contains (take i pairs ++ p ∷ []) x) e (Contains-push (take i pairs) p)) c),
    )

pub lost_none : (f : Af) → IsNumberedAf f → HasLost [] f f
lost_none f ok = record {
  form = ok;
  live = refl;
  attacks = λ p. (λ c. (c, λ n. Contains-nil p n), λ h. h.0);
}

pub lost_more : (pairs : List (ℕ × ℕ)) (i : ℕ) (p : ℕ × ℕ) (f m n : Af) → i < length pairs → get_or pairs i (0, 0) ≡ p
    → HasLost (take i pairs) f m → n.live ≡ m.live → LosesPair p m.attacks n.attacks → IsNumberedAf n
    → HasLost (take (i + 1) pairs) f n
lost_more pairs i p f m n lt is lost live loses ok = record {
  form = ok;
  live = live ∙ lost.live;
  attacks = λ q. (
    λ c. let here = (loses.members q).0 c in
        let before = (lost.attacks q).0 here.0 in
        (before.0, λ gone. ⊎_elim before.1 (λ (e : p ≡ q). here.1 (sym e)) ((next_pair pairs i p q lt is).0 gone)),
    λ h. (loses.members q).1 (
      (lost.attacks q).1 (h.0, λ gone. h.1 ((next_pair pairs i p q lt is).1 (inl gone))),
      λ (e : q ≡ p). h.1 ((next_pair pairs i p q lt is).1 (inr (sym e))),
    ),
  );
}

pub gained_none : (f : Af) → IsNumberedAf f → HasGained [] f f
gained_none f ok = record {
  form = ok;
  live = refl;
  attacks = λ p. (λ c. inl c, λ h. ⊎_elim (λ c. c) (λ n. absurd (Contains-nil p n)) h);
}

-- one attack alone
pub gained_one : (p : ℕ × ℕ) (f g : Af) → g.live ≡ f.live → GainsPair p f.attacks g.attacks → IsNumberedAf g
    → HasGained (p ∷ []) f g
gained_one p f g live gains ok = record {
  form = ok;
  live = live;
  attacks = λ q. (
    λ c. ⊎_elim (λ o. inl o) (λ (e : q ≡ p). inr (Contains-head p [] q (sym e))) ((gains.members q).0 c),
    λ h. (gains.members q).1 (⊎_elim (λ o. inl o)
        (λ here. ⊎_elim (λ (e : p ≡ q). inr (sym e)) (λ none. absurd (Contains-nil q none))
        (Contains-cons_cases p [] q here)) h),
  );
}

pub gained_more : (pairs : List (ℕ × ℕ)) (i : ℕ) (p : ℕ × ℕ) (f m n : Af) → i < length pairs
    → get_or pairs i (0, 0) ≡ p → HasGained (take i pairs) f m → HasGained (p ∷ []) m n
    → HasGained (take (i + 1) pairs) f n
gained_more pairs i p f m n lt is gained more = record {
  form = more.form;
  live = more.live ∙ gained.live;
  attacks = λ q. (
    λ c. ⊎_elim
        (λ h. ⊎_elim (λ o. inl o) (λ there. inr ((next_pair pairs i p q lt is).1 (inl there)))
        ((gained.attacks q).0 h))
        (λ h. ⊎_elim (λ (e : p ≡ q). inr ((next_pair pairs i p q lt is).1 (inr e)))
        (λ none. absurd (Contains-nil q none)) (Contains-cons_cases p [] q h))
        ((more.attacks q).0 c),
    λ h. (more.attacks q).1 (⊎_elim (λ o. inl ((gained.attacks q).1 (inl o)))
        (λ there. ⊎_elim (λ before. inl ((gained.attacks q).1 (inr before)))
        (λ (e : p ≡ q). inr (Contains-head p [] q e)) ((next_pair pairs i p q lt is).0 there)) h),
  );
}

-- what came and goes again leaves what was before
pub given_back : (pairs : List (ℕ × ℕ)) (f g h : Af) → IsNumberedAf f
    → ((p : ℕ × ℕ) → Contains pairs p → Contains f.attacks p → ⊥) → HasGained pairs f g → HasLost pairs g h → h ≡ f
given_back pairs f g h ok new gained lost =
    same_framework h f lost.form.form ok.form (lost.live ∙ gained.live) (λ p. (
      λ c. let before = (lost.attacks p).0 c in
          ⊎_elim (λ o. o) (λ there. absurd (before.1 there)) ((gained.attacks p).0 before.0),
      λ c. (lost.attacks p).1 ((gained.attacks p).1 (inl c), λ there. new p there c),
    ))

-- the same for the first of the pairs
pub given_back_before : (pairs : List (ℕ × ℕ)) (i : ℕ) (f g h : Af) → IsNumberedAf f
    → ((p : ℕ × ℕ) → Contains pairs p → Contains f.attacks p → ⊥) → HasGained (take i pairs) f g
    → HasLost (take i pairs) g h → h ≡ f
given_back_before pairs i f g h ok new gained lost =
    given_back (take i pairs) f g h ok
    (λ p c. new p (subst (λ xs. Contains xs p) (take-append-drop i pairs)
    (Contains-append_left (take i pairs) (drop i pairs) p c))) gained lost

-- the ends of a pair are live, whatever came before it
pub ends_live : (pairs : List (ℕ × ℕ)) (i : ℕ) (f g : Af) → i < length pairs → HasGained (take i pairs) f g
    → ((p : ℕ × ℕ) → Contains pairs p → Contains f.live p.0 × Contains f.live p.1)
    → Contains g.live (get_or pairs i (0, 0)).0 × Contains g.live (get_or pairs i (0, 0)).1
ends_live pairs i f g lt gained live =
    let p = get_or pairs i (0, 0) in
    let ends = live p (subst (λ xs. Contains xs p) (take-append-drop (i + 1) pairs)
    (Contains-append_left (take (i + 1) pairs) (drop (i + 1) pairs) p
    ((next_pair pairs i p p lt refl).1 (inr refl)))) in
    (subst (λ xs. Contains xs p.0) (sym gained.live) ends.0, subst (λ xs. Contains xs p.1) (sym gained.live) ends.1)
