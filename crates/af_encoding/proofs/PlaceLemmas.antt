-- Where a number stands among the attackers of an argument, and on the walk along them.
use Rattle.std.proofs.Common.{◌≡◌, ◌≤◌, ◌<◌, ◌+◌, ◌-◌, ℕ, List, length, get_or, true, false, arith, refl, ap, sym, subst, ◌∙◌, inl, inr, ⊎_elim}
use Rattle.std.proofs.Common.{ltb, leb, ltb-true, ltb-false, leb-true, leb-false}
use Rattle.std.specs.Prelude.{Contains, slice_index_or}
use Rattle.std.specs.List.Sorted.{IsPartitionPoint, IsPartitionedBy}
use Rattle.std.proofs.lemmas.Bool.{cases_eq, cases_lt}
use Rattle.std.proofs.lemmas.List.{get_or_default}
use Rattle.std.proofs.lemmas.List.Sorted.{IsPartitionedBy-leb}
use Rattle.semantics.specs.Framework.{Af, Attacks}
use Rattle.dung_notions.specs.Neighbours.{ListsAttackers}
use Rattle.af_encoding.specs.Changes.{IsNextAfter, HasNoneAfter, IsPlaceBefore}
use Rattle.af_encoding.proofs.NeededLemmas.{attack_at}
use Rattle.af_axioms.proofs.Gaps.{attackers_rise}

pub parted_until : (f : Af) (a b : ℕ) (pairs : List (ℕ × ℕ)) → ListsAttackers f a pairs
    → IsPartitionedBy (λ p. leb p.1 b) pairs
parted_until f a b pairs h = IsPartitionedBy-leb (λ (p : ℕ × ℕ). p.1) pairs b (attackers_rise f a pairs h)

-- the attackers of the first n pairs are below b, and the others aren't
record IsCutAt (b : ℕ) (pairs : List (ℕ × ℕ)) (n : ℕ) : Type 0 where
  pub before : (k : ℕ) → k < n → k < length pairs → (get_or pairs k (0, 0)).1 < b
  pub after : (k : ℕ) → n ≤ k → k < length pairs → b ≤ (get_or pairs k (0, 0)).1

cut_before : (b : ℕ) (pairs : List (ℕ × ℕ)) (n : ℕ)
    → IsPartitionPoint (λ p. ltb p.1 b ≡ true) (λ p. ltb p.1 b ≡ false) pairs n → IsCutAt b pairs n
cut_before b pairs n cut = record {
  before = λ k lt within. ltb-true _ _ (cut.0 k (0, 0) (omega arith) lt);
  after = λ k ge within. ltb-false _ _ (cut.1 k (0, 0) ge within);
}

cut_until : (b : ℕ) (pairs : List (ℕ × ℕ)) (n : ℕ)
    → IsPartitionPoint (λ p. leb p.1 b ≡ true) (λ p. leb p.1 b ≡ false) pairs n → IsCutAt (b + 1) pairs n
cut_until b pairs n cut = record {
  before = λ k lt within. let le = leb-true _ _ (cut.0 k (0, 0) (omega arith) lt) in omega arith;
  after = λ k ge within. let past = leb-false _ _ (cut.1 k (0, 0) ge within) in omega arith;
}

-- the index of an attacker's pair
index_of : (f : Af) (a : ℕ) (pairs : List (ℕ × ℕ)) → ListsAttackers f a pairs → (x : ℕ) → Attacks f x a
    → (k : ℕ) × ((k < length pairs) × ((get_or pairs k (0, 0)).1 ≡ x))
index_of f a pairs h x at =
    let there : Contains pairs (a, x) = (h.attackers a x).1 (refl, at) in (
      there.0,
      (there.1, ap (λ (p : ℕ × ℕ). p.1) (get_or_default pairs there.0 (0, 0) (a, x) there.1 ∙ there.2)),
    )

-- ---- the place before a number

pub place_first : (f : Af) (a b : ℕ) (pairs : List (ℕ × ℕ)) (n : ℕ) → ListsAttackers f a pairs
    → IsPartitionPoint (λ p. ltb p.1 b ≡ true) (λ p. ltb p.1 b ≡ false) pairs n → n ≡ 0 → 1 ≤ b
    → IsPlaceBefore f a b 1
place_first f a b pairs n h part none low =
    let cut = cut_before b pairs n part in
    record {
      start = inl refl;
      order = low;
      gap = λ x at late before.
          let k = index_of f a pairs h x at in
          let ge = cut.after k.0 (omega arith) k.1.0 in
          let is = k.1.1 in
          omega arith;
    }

pub place_next : (f : Af) (a b : ℕ) (pairs : List (ℕ × ℕ)) (n : ℕ) → ListsAttackers f a pairs
    → IsPartitionPoint (λ p. ltb p.1 b ≡ true) (λ p. ltb p.1 b ≡ false) pairs n → (n ≡ 0 → ⊥) → n ≤ length pairs
    → IsPlaceBefore f a b ((slice_index_or pairs (n - 1) (0, 0)).1 + 1)
place_next f a b pairs n h part some fits =
    let cut = cut_before b pairs n part in
    let low : 0 < n = ⊎_elim (λ e. absurd (some e)) (λ other. omega arith) (cases_eq n 0) in
    let last = cut.before (n - 1) (omega arith) (omega arith) in
    record {
      start =
          inr ((slice_index_or pairs (n - 1) (0, 0)).1, (attack_at f a pairs h (n - 1) (0, 0) (omega arith)).1, refl);
      order = omega arith;
      gap = λ x at late before.
          let k = index_of f a pairs h x at in
          let is = k.1.1 in
          let within = k.1.0 in
          ⊎_elim
          (λ lt. let le = attackers_rise f a pairs h k.0 (n - 1) (0, 0) (omega arith) (omega arith) in omega arith)
          (λ ge. let past = cut.after k.0 ge within in omega arith)
          (cases_lt k.0 n);
    }

-- ---- the next attacker past a number

pub next_there : (f : Af) (a b : ℕ) (pairs : List (ℕ × ℕ)) (n : ℕ) (first : ℕ × ℕ) → ListsAttackers f a pairs
    → IsPartitionPoint (λ p. leb p.1 b ≡ true) (λ p. leb p.1 b ≡ false) pairs n → n < length pairs
    → first ≡ get_or pairs n first → IsNextAfter f a b first.1
next_there f a b pairs n first h part within e =
    let cut = cut_until b pairs n part in
    let same : first ≡ get_or pairs n (0, 0) = e ∙ get_or_default pairs n first (0, 0) within in
    let one : first.1 ≡ (get_or pairs n (0, 0)).1 = ap (λ (p : ℕ × ℕ). p.1) same in
    let past = cut.after n (omega arith) within in
    record {
      past = omega arith;
      attack = let at = (attack_at f a pairs h n first within).1 in
          subst (λ (x : ℕ). Attacks f x a) (sym (ap (λ (p : ℕ × ℕ). p.1) e)) at;
      gap = λ x at late before.
          let k = index_of f a pairs h x at in
          let is = k.1.1 in
          let inside = k.1.0 in
          ⊎_elim
          (λ lt. let under = cut.before k.0 lt inside in omega arith)
          (λ ge. let le = attackers_rise f a pairs h n k.0 (0, 0) ge inside in omega arith)
          (cases_lt k.0 n);
    }

pub none_there : (f : Af) (a b : ℕ) (pairs : List (ℕ × ℕ)) (n : ℕ) → ListsAttackers f a pairs
    → IsPartitionPoint (λ p. leb p.1 b ≡ true) (λ p. leb p.1 b ≡ false) pairs n → length pairs ≤ n
    → HasNoneAfter f a b
none_there f a b pairs n h part past x at late before =
    let cut = cut_until b pairs n part in
    let k = index_of f a pairs h x at in
    let is = k.1.1 in
    let inside = k.1.0 in
    let under = cut.before k.0 (omega arith) inside in
    omega arith
