-- The pairs of assumptions and contraries behind an edit.
use Rattle.std.proofs.Common.{◌≡◌, ◌<◌, ◌≤◌, ℕ, true, false, Bool, not, List, [], ◌∷◌, ◌++◌, refl, ap, sym, subst, ◌∙◌, map, arith}
use Rattle.std.proofs.Common.{⊎_elim, inl, inr}
use Rattle.std.specs.Prelude.{Contains, ◌↔◌, ◌⊎◌, ◌≢◌, ◌==◌, filter, nat_lt, cond}
use Rattle.std.specs.List.{AllPairs}
use Rattle.std.proofs.lemmas.Bool.{true≢false, eqb-true, eq-eqb, not-true, not_from_false, ltb-true, lt-ltb, cases_lt, cond_both}
use Rattle.std.proofs.lemmas.List.Elements.{Contains-append_cases, Contains-append_left, Contains-append_right}
use Rattle.std.proofs.lemmas.List.Kept.{AllPairs-filter}
use Rattle.lists.proofs.Filters.{Contains-filter}
use Rattle.lists.proofs.Images.{image_there, image_from}
use Rattle.lists.proofs.Membership.{Contains-nil, Contains-head, Contains-cons_cases}
use Rattle.lists.proofs.RisingLists.{append_rises}
use Rattle.semantics.specs.Framework.{IsPairBefore}
use Rattle.edit_rules.proofs.EditWordTests.{is_false, same_pair}
use Rattle.edit_rules.specs.AbaEdits.{contraries_of, pair_of, with_contrary, without_contrary}

kept_step : {X Y : Type 0} (b : Bool) (g : X → Y) (x : X) (ys : List Y) (xs : List X) → ys ≡ map g xs
    → cond b (g x ∷ ys) ys ≡ map g (cond b (x ∷ xs) xs)
kept_step true g x ys xs e = ap (λ zs. g x ∷ zs) e
kept_step false g x ys xs e = e

-- a test of the images keeps the images of what it keeps
pub filter-map : {X Y : Type 0} (g : X → Y) (p : Y → Bool) (xs : List X)
    → filter p (map g xs) ≡ map g (filter (λ x. p (g x)) xs)
filter-map g p [] = refl
filter-map g p (x ∷ xs) = kept_step (p (g x)) g x (filter p (map g xs)) (filter (λ y. p (g y)) xs) (filter-map g p xs)

-- a pair of another assumption
pub not_of : (a : ℕ) (p : ℕ × ℕ) → not (p.0 == a) ≡ true → p.0 ≡ a → ⊥
not_of a p h e = true≢false (sym (eq-eqb p.0 a e) ∙ not-true (p.0 == a) h)

pub not_from : (a : ℕ) (p : ℕ × ℕ) → (p.0 ≡ a → ⊥) → not (p.0 == a) ≡ true
not_from a p never = not_from_false (p.0 == a) (is_false (p.0 == a) (λ t. never (eqb-true p.0 a t)))

pub without_contrary_members : (a : ℕ) (ps : List (ℕ × ℕ)) (p : ℕ × ℕ)
    → Contains (without_contrary a ps) p ↔ (Contains ps p × (p.0 ≡ a → ⊥))
without_contrary_members a ps p = (
  λ c. let h = (Contains-filter (λ q. not (q.0 == a)) ps p).0 c in (h.0, not_of a p h.1),
  λ h. (Contains-filter (λ q. not (q.0 == a)) ps p).1 (h.0, not_from a p h.1),
)

pub without_contrary_rises : (a : ℕ) (ps : List (ℕ × ℕ)) → AllPairs IsPairBefore ps
    → AllPairs IsPairBefore (without_contrary a ps)
without_contrary_rises a ps up = AllPairs-filter IsPairBefore (λ p. not (p.0 == a)) ps up

-- the pair of an assumption and its only contrary
pub pair_of_members : (a c : ℕ) (p : ℕ × ℕ) → Contains (pair_of a c) p ↔ ((p ≡ (a, c)) × (c ≢ 0))
pair_of_members a c p =
    cond_both (c == 0) [] ((a, c) ∷ []) (λ ps. Contains ps p ↔ ((p ≡ (a, c)) × (c ≢ 0)))
    (λ none. (λ d. absurd (Contains-nil p d), λ h. absurd (h.1 (eqb-true c 0 none))))
    (λ one. (
      λ d. ⊎_elim (λ (e : (a, c) ≡ p). (sym e, λ (z : c ≡ 0). true≢false (sym (eq-eqb c 0 z) ∙ one)))
          (λ h. absurd (Contains-nil p h)) (Contains-cons_cases (a, c) [] p d),
      λ h. Contains-head (a, c) [] p (sym h.0),
    ))

pair_of_rises : (a c : ℕ) → AllPairs IsPairBefore (pair_of a c)
pair_of_rises a c = cond_both (c == 0) [] ((a, c) ∷ []) (AllPairs IsPairBefore)
    (λ none i j d lt within. absurd (omega arith)) (λ one i j d lt within. absurd (omega arith))

abbrev lower : ℕ → List (ℕ × ℕ) → List (ℕ × ℕ)
lower a ps = filter (λ p. nat_lt p.0 a) ps

abbrev higher : ℕ → List (ℕ × ℕ) → List (ℕ × ℕ)
higher a ps = filter (λ p. nat_lt a p.0) ps

lower_first : (a : ℕ) (ps : List (ℕ × ℕ)) (p : ℕ × ℕ) → Contains (lower a ps) p → p.0 < a
lower_first a ps p c = ltb-true p.0 a ((Contains-filter (λ q. nat_lt q.0 a) ps p).0 c).1

higher_first : (a : ℕ) (ps : List (ℕ × ℕ)) (p : ℕ × ℕ) → Contains (higher a ps) p → a < p.0
higher_first a ps p c = ltb-true a p.0 ((Contains-filter (λ q. nat_lt a q.0) ps p).0 c).1

from_first : (a c : ℕ) (ps : List (ℕ × ℕ)) (p : ℕ × ℕ) → Contains (pair_of a c ++ higher a ps) p → a ≤ p.0
from_first a c ps p d =
    ⊎_elim
    (λ l. let e : p.0 ≡ a = ap (λ (q : ℕ × ℕ). q.0) ((pair_of_members a c p).0 l).0 in omega arith)
    (λ h. let lt = higher_first a ps p h in omega arith) (Contains-append_cases (pair_of a c) (higher a ps) p d)

pub with_contrary_rises : (a c : ℕ) (ps : List (ℕ × ℕ)) → AllPairs IsPairBefore ps
    → AllPairs IsPairBefore (with_contrary a c ps)
with_contrary_rises a c ps up = append_rises IsPairBefore (lower a ps) (pair_of a c ++ higher a ps)
    (AllPairs-filter IsPairBefore (λ p. nat_lt p.0 a) ps up)
    (append_rises IsPairBefore (pair_of a c) (higher a ps) (pair_of_rises a c)
    (AllPairs-filter IsPairBefore (λ p. nat_lt a p.0) ps up) (λ p q l h.
    let e : p.0 ≡ a = ap (λ (r : ℕ × ℕ). r.0) ((pair_of_members a c p).0 l).0 in
    let lt = higher_first a ps q h in inl (omega arith)))
    (λ p q l h. let below = lower_first a ps p l in let above = from_first a c ps q h in inl (omega arith))

pub with_contrary_members : (a c : ℕ) (ps : List (ℕ × ℕ)) (p : ℕ × ℕ)
    → Contains (with_contrary a c ps) p ↔ (Contains (without_contrary a ps) p ⊎ ((p ≡ (a, c)) × (c ≢ 0)))
with_contrary_members a c ps p = (there, back)
  where
    there : Contains (with_contrary a c ps) p → Contains (without_contrary a ps) p ⊎ ((p ≡ (a, c)) × (c ≢ 0))
    there d = ⊎_elim
        (λ l. let lt = lower_first a ps p l in
        inl ((without_contrary_members a ps p).1
        (((Contains-filter (λ q. nat_lt q.0 a) ps p).0 l).0, λ e. absurd (omega arith))))
        (λ r. ⊎_elim (λ m. inr ((pair_of_members a c p).0 m))
        (λ h. let lt = higher_first a ps p h in
        inl ((without_contrary_members a ps p).1
        (((Contains-filter (λ q. nat_lt a q.0) ps p).0 h).0, λ e. absurd (omega arith))))
        (Contains-append_cases (pair_of a c) (higher a ps) p r))
        (Contains-append_cases (lower a ps) (pair_of a c ++ higher a ps) p d)

    back : Contains (without_contrary a ps) p ⊎ ((p ≡ (a, c)) × (c ≢ 0)) → Contains (with_contrary a c ps) p
    back s = ⊎_elim
        (λ d. let h = (without_contrary_members a ps p).0 d in
        ⊎_elim (λ lt. Contains-append_left (lower a ps) (pair_of a c ++ higher a ps) p
        ((Contains-filter (λ q. nat_lt q.0 a) ps p).1 (h.0, lt-ltb p.0 a lt)))
        (λ ge. ⊎_elim (λ lt. Contains-append_right (lower a ps) (pair_of a c ++ higher a ps) p
        (Contains-append_right (pair_of a c) (higher a ps) p
        ((Contains-filter (λ q. nat_lt a q.0) ps p).1 (h.0, lt-ltb a p.0 lt))))
        (λ le. absurd (h.1 (omega arith))) (cases_lt a p.0)) (cases_lt p.0 a))
        (λ m. Contains-append_right (lower a ps) (pair_of a c ++ higher a ps) p
        (Contains-append_left (pair_of a c) (higher a ps) p ((pair_of_members a c p).1 m))) s

-- pairs that stand in no order have the same members
pub pushed_contrary : (a c : ℕ) (ps made : List (ℕ × ℕ)) → made ≡ without_contrary a ps ++ pair_of a c
    → (p : ℕ × ℕ) → Contains made p ↔ Contains (with_contrary a c ps) p
pushed_contrary a c ps made e p = (
  λ d. (with_contrary_members a c ps p).1 (⊎_elim (λ l. inl l) (λ m. inr ((pair_of_members a c p).0 m))
      (Contains-append_cases (without_contrary a ps) (pair_of a c) p (subst (λ zs. Contains zs p) e d))),
  λ d. subst (λ zs. Contains zs p) (sym e) (⊎_elim
      (λ l. Contains-append_left (without_contrary a ps) (pair_of a c) p l)
      (λ m. Contains-append_right (without_contrary a ps) (pair_of a c) p ((pair_of_members a c p).1 m))
      ((with_contrary_members a c ps p).0 d)),
)

-- the contraries of an atom
pub contraries_of_members : (ps : List (ℕ × ℕ)) (a c : ℕ) → Contains (contraries_of ps a) c ↔ Contains ps (a, c)
contraries_of_members ps a c = (
  λ d. let from = image_from (λ (p : ℕ × ℕ). p.1) (filter (λ p. p.0 == a) ps) c d in
      let h = (Contains-filter (λ p. p.0 == a) ps from.0).0 from.1 in
      subst (Contains ps) (same_pair from.0 (a, c) (eqb-true from.0.0 a h.1) from.2) h.0,
  λ d. image_there (λ (p : ℕ × ℕ). p.1) (filter (λ p. p.0 == a) ps) (a, c)
      ((Contains-filter (λ p. p.0 == a) ps (a, c)).1 (d, eq-eqb a a refl)),
)
