-- A gap is found where the attackers, by rising number, are cut at the gap's beginning.
use Rattle.std.proofs.Common.{◌≡◌, ◌≤◌, ◌<◌, ℕ, List, length, get_or, true, false, arith, ap, refl, sym, subst, ◌∙◌, ⊎_elim}
use Rattle.std.proofs.Common.{eqb, ltb, leb, ltb-true, ltb-false, leb-true, le-leb, eqb-true, eq-eqb}
use Rattle.std.specs.Prelude.{Contains, ◌↔◌, IsTrue}
use Rattle.std.specs.List.Sorted.{IsNonDecreasingBy, IsPartitionedBy, IsPartitionPoint}
use Rattle.std.proofs.lemmas.Bool.{cases_eq, cases_lt}
use Rattle.std.proofs.lemmas.List.{get_or_default}
use Rattle.std.proofs.lemmas.List.Sorted.{IsPartitionedBy-ltb}
use Rattle.std.proofs.lemmas.List.Elements.{Contains-get_or}
use Rattle.meaning_atoms.specs.semantics.specs.Framework.{Af, Attacks}
use Rattle.meaning_atoms.specs.Worlds.{HasGap}
use Rattle.dung_notions.specs.Neighbours.{ListsAttackers}

-- the pairs of an argument's attackers rise by attacker
pub attackers_rise : (f : Af) (a : ℕ) (pairs : List (ℕ × ℕ)) → ListsAttackers f a pairs
    → IsNonDecreasingBy (λ p. p.1) pairs
attackers_rise f a pairs h i j d le lt =
    let left = ((h.attackers _ _).0 (Contains-get_or pairs i d (omega arith))).0 in
    let right = ((h.attackers _ _).0 (Contains-get_or pairs j d lt)).0 in
    ⊎_elim (λ e. omega (arith, ap (λ k. (get_or pairs k d).1) e))
    (λ other. ⊎_elim (λ less. absurd (omega (arith, left, right, less))) (λ tie. omega (arith, tie.1))
    (h.rise.order i j d (omega arith) lt))
    (cases_eq i j)

-- so they can be searched for the first attacker from i on
pub attackers_parted : (f : Af) (a i : ℕ) (pairs : List (ℕ × ℕ)) → ListsAttackers f a pairs
    → IsPartitionedBy (λ p. ltb p.1 i) pairs
attackers_parted f a i pairs h = IsPartitionedBy-ltb (λ (p : ℕ × ℕ). p.1) pairs i (attackers_rise f a pairs h)

-- the index n is that of the first attacker from i on
abbrev pub IsCutAt : ℕ → List (ℕ × ℕ) → ℕ → Type 0
IsCutAt i pairs n = IsPartitionPoint (λ p. ltb p.1 i ≡ true) (λ p. ltb p.1 i ≡ false) pairs n

-- the index k has the attacker b, and is the cut or later
record IsLaterPlace (pairs : List (ℕ × ℕ)) (n b k : ℕ) : Type 0 where
  late : n ≤ k
  within : k < length pairs
  there : (d : ℕ × ℕ) → (get_or pairs k d).1 ≡ b

-- an attacker from i on stands at the cut or after it
after_cut : (f : Af) (a i : ℕ) (pairs : List (ℕ × ℕ)) (n : ℕ) → ListsAttackers f a pairs → IsCutAt i pairs n
    → (b : ℕ) → Attacks f b a → i ≤ b → (k : ℕ) × IsLaterPlace pairs n b k
after_cut f a i pairs n h cut b at late =
    let there : Contains pairs (a, b) = (h.attackers a b).1 (refl, at) in
    let here : (d : ℕ × ℕ) → (get_or pairs there.0 d).1 ≡ b =
    λ d. ap (λ (p : ℕ × ℕ). p.1) (get_or_default pairs there.0 d (a, b) there.1 ∙ there.2) in
    ⊎_elim
    (λ lt. absurd (omega (arith, here (0, 0), ltb-true _ _ (cut.0 there.0 (0, 0) (omega arith) lt))))
    (λ ge. (there.0, record { late = ge; within = there.1; there = here }))
    (cases_lt there.0 n)

-- with no attacker from i on, no attacker is in the gap
pub gap_past_all : (f : Af) (a i j : ℕ) (pairs : List (ℕ × ℕ)) (n : ℕ)
    → ListsAttackers f a pairs → IsCutAt i pairs n → length pairs ≤ n → HasGap f a i j
gap_past_all f a i j pairs n h cut past b at low high =
    let k = (after_cut f a i pairs n h cut b at low).1 in omega arith

-- otherwise none is in the gap exactly where the first attacker from i on is past it
pub gap_at : (f : Af) (a i j : ℕ) (pairs : List (ℕ × ℕ)) (n : ℕ) (first : ℕ × ℕ)
    → ListsAttackers f a pairs → IsCutAt i pairs n → n < length pairs → first ≡ get_or pairs n first
    → IsTrue (leb j first.1) ↔ HasGap f a i j
gap_at f a i j pairs n first h cut within e =
    let same = ap (λ (p : ℕ × ℕ). p.1) e in (
      λ t b at low high.
          let found = after_cut f a i pairs n h cut b at low in
          let k = found.1 in
          let rise = attackers_rise f a pairs h n found.0 first k.late k.within in
          omega (arith, same, leb-true _ _ t, k.there first, rise),
      λ gap.
          let there = (h.attackers _ _).0 (Contains-get_or pairs n first within) in
          let late = ltb-false _ _ (cut.1 n first (omega arith) within) in
          ⊎_elim (λ before. absurd (gap _ there.1 late before)) (λ le. le-leb _ _ (omega (arith, same)))
          (cases_lt (get_or pairs n first).1 j),
    )

-- ---- attackers

-- with no attacker from b on, b is none
pub none_past_all : (f : Af) (a b : ℕ) (pairs : List (ℕ × ℕ)) (n : ℕ)
    → ListsAttackers f a pairs → IsCutAt b pairs n → length pairs ≤ n → Attacks f b a → ⊥
none_past_all f a b pairs n h cut past at =
    let k = (after_cut f a b pairs n h cut b at (omega arith)).1 in omega arith

-- otherwise b is one exactly where it is the first attacker from b on
pub attacker_at : (f : Af) (a b : ℕ) (pairs : List (ℕ × ℕ)) (n : ℕ) (first : ℕ × ℕ)
    → ListsAttackers f a pairs → IsCutAt b pairs n → n < length pairs → first ≡ get_or pairs n first
    → IsTrue (eqb first.1 b) ↔ Attacks f b a
attacker_at f a b pairs n first h cut within e =
    let same = ap (λ (p : ℕ × ℕ). p.1) e in
    let there = (h.attackers _ _).0 (Contains-get_or pairs n first within) in (
      λ t. subst (λ x. Attacks f x a) (sym same ∙ eqb-true _ _ t) there.1,
      λ at.
          let found = after_cut f a b pairs n h cut b at (omega arith) in
          let k = found.1 in
          let rise = attackers_rise f a pairs h n found.0 first k.late k.within in
          let late = ltb-false _ _ (cut.1 n first (omega arith) within) in
          eq-eqb _ _ (omega (arith, same, late, k.there first, rise)),
    )
