-- An index with a pair more or less: the order of its pairs, its members, and its table of offsets.
use Rattle.std.proofs.Common.{◌≡◌, ℕ, ◌+◌, ◌-◌, ◌<◌, ◌≤◌, List, ◌∷◌, length, get_or, set, take, drop, arith, ap, sym, ◌∙◌, subst, refl, inl, inr, ⊎_elim, Ok, Err}
use Rattle.std.specs.Prelude.{Contains, ◌↔◌, ◌≢◌, ◌⊎◌, insert}
use Rattle.std.specs.List.{remove}
use Rattle.std.specs.List.Sorted.{IsBinarySearchResult, IsSearchInRange}
use Rattle.std.specs.declared.cmp.Ordering.TheVariants.{Greater}
use Rattle.std.proofs.lemmas.Bool.{cases_eq, cases_lt, cases_order}
use Rattle.std.proofs.lemmas.Bool.Decides.{nat_tests}
use Rattle.std.proofs.lemmas.List.{get_or-set_same, get_or-set_other, get_or_default, length-set, take-append-drop}
use Rattle.std.proofs.lemmas.List.Edits.{length-insert, get_or-insert_below, get_or-insert_at, get_or-insert_above, length-remove, get_or-remove_below, get_or-remove_above}
use Rattle.std.proofs.lemmas.List.Elements.{Contains-append_cases, Contains-append_left, Contains-append_right}
use Rattle.std.proofs.lemmas.List.Quantifiers.{all_pairs_remove}
use Rattle.std.proofs.lemmas.List.Sorted.{searchable_from_sorted}
use Rattle.lists.proofs.Membership.{Contains-head, Contains-tail, Contains-cons_cases}
use Rattle.semantics.specs.Framework.{IsPairBefore}
use Rattle.attack_index.specs.PairOrder.{PairsRise}
use Rattle.attack_index.specs.Offsets.{HasOffsets, IsOffsetOf}
use Rattle.attack_index.specs.Changes.{AreLoweredFrom, AreRaisedFrom, BelongsAt, GainsPair, LosesPair}
use Rattle.attack_index.proofs.PairOrderLemmas.{IsSorted-from_rise, before_from_less, pair_cmp, pair_cmp_total, same_from_equal}
use Rattle.attack_index.proofs.OffsetLemmas.{before_apart}

-- ---- numbers that change from an index on

-- those from the one index on up to the other have changed, each as R says
pub record AreChangedTo (R : ℕ → ℕ → Type 0) (from upto : ℕ) (old new : List ℕ) : Type 0 where
  pub long : length new ≡ length old
  pub before : (k : ℕ) → k < from → get_or new k 0 ≡ get_or old k 0
  pub between : (k : ℕ) → from ≤ k → k < upto → k < length old → R (get_or old k 0) (get_or new k 0)
  pub rest : (k : ℕ) → upto ≤ k → get_or new k 0 ≡ get_or old k 0

pub changed_none : (R : ℕ → ℕ → Type 0) (from : ℕ) (xs : List ℕ) → AreChangedTo R from from xs xs
changed_none R from xs = record {
  long = refl;
  before = λ k lt. refl;
  between = λ k le lt within. absurd (omega arith);
  rest = λ k le. refl;
}

pub changed_more : (R : ℕ → ℕ → Type 0) (from n x : ℕ) (old new : List ℕ) → from ≤ n → n < length old
    → R (get_or old n 0) x → AreChangedTo R from n old new → AreChangedTo R from (n + 1) old (set new n x)
changed_more R from n x old new le lt is h =
    let at : get_or (set new n x) n 0 ≡ x = get_or-set_same new n x 0 (omega (arith, lt, h.long)) in
    let other : (k : ℕ) → (k ≡ n → ⊥) → get_or (set new n x) k 0 ≡ get_or new k 0 = λ k ne.
    get_or-set_other new n k x 0 ne in
    record {
      long = length-set new n x ∙ h.long;
      before = λ k less. other k (λ e. omega (arith, e, le, less)) ∙ h.before k less;
      between = λ k low high within. ⊎_elim
          (λ (e : k ≡ n). rw (e, at) is)
          (λ ne. rw (other k ne) (h.between k low (omega (arith, high, ne)) within)) (cases_eq k n);
      rest = λ k past. other k (λ e. omega (arith, e, past)) ∙ h.rest k (omega (arith, past));
    }

pub raised_all : (from n : ℕ) (old new : List ℕ) → length old ≤ n
    → AreChangedTo (λ a b. b ≡ a + 1) from n old new → AreRaisedFrom from old new
raised_all from n old new past h = record {
  long = h.long;
  before = h.before;
  after = λ k le lt. h.between k le (omega (arith, lt, past)) lt;
}

pub lowered_all : (from n : ℕ) (old new : List ℕ) → length old ≤ n
    → AreChangedTo (λ a b. b + 1 ≡ a) from n old new → AreLoweredFrom from old new
lowered_all from n old new past h = record {
  long = h.long;
  before = h.before;
  after = λ k le lt. h.between k le (omega (arith, lt, past)) lt;
}

-- ---- order

first_le : (p q : ℕ × ℕ) → IsPairBefore p q → p.0 ≤ q.0
first_le p q h = ⊎_elim (λ (lt : p.0 < q.0). omega (arith, lt)) (λ (tie : (p.0 ≡ q.0) × (p.1 < q.1)). omega (arith, tie.0)) h

from_greater_second : (p q : ℕ × ℕ) → p.0 ≡ q.0 → pair_cmp p q ≡ Greater → q.1 < p.1
from_greater_second p q e h = grind (arith, nat_tests)

not_greater : (p q : ℕ × ℕ) → p.0 < q.0 → pair_cmp p q ≡ Greater → ⊥
not_greater p q lt h = grind (arith, nat_tests)

before_from_greater : (p q : ℕ × ℕ) → pair_cmp p q ≡ Greater → IsPairBefore q p
before_from_greater p q h = ⊎_elim (λ (e : p.0 ≡ q.0). inr (sym e, from_greater_second p q e h))
    (λ ne. ⊎_elim (λ lt. absurd (not_greater p q lt h)) (λ gt. inl gt) ne) (cases_order p.0 q.0)

-- where a binary search tells that a pair would stand
pub belongs_at : (pairs : List (ℕ × ℕ)) (p : ℕ × ℕ) (i : ℕ) → PairsRise pairs
    → IsSearchInRange (Err i) (length pairs) → IsBinarySearchResult (λ y. pair_cmp y p) pairs (Err i)
    → BelongsAt p pairs i
belongs_at pairs p i up in_range h =
    let parts = h (searchable_from_sorted pair_cmp_total (λ (q : ℕ × ℕ). q) pairs p (IsSorted-from_rise pairs up)) in
    record {
      within = in_range;
      before = λ k d lt. before_from_less _ _ (parts.0 k d (omega arith) lt);
      after = λ k d le lt. before_from_greater _ _ (parts.1 k d le lt);
    }

-- an item of a list with an item put into it
abbrev IsReadAt : {X : Type 0} → List X → ℕ → X → X → ℕ → Type 0
IsReadAt xs i y d j = ((j < i) × (get_or (insert xs i y) j d ≡ get_or xs j d))
    ⊎ (((j ≡ i) × (get_or (insert xs i y) j d ≡ y))
    ⊎ ((i < j) × (get_or (insert xs i y) j d ≡ get_or xs (j - 1) d)))

read_at : {X : Type 0} (xs : List X) (i : ℕ) (y d : X) (j : ℕ) → i ≤ length xs → IsReadAt xs i y d j
read_at xs i y d j within = ⊎_elim
    (λ (e : j ≡ i). inr (inl (e, ap (λ (n : ℕ). get_or (insert xs i y) n d) e ∙ get_or-insert_at xs i y d within)))
    (λ ne. ⊎_elim (λ (lt : j < i). inl (lt, get_or-insert_below xs i y d j lt within))
    (λ (gt : i < j).
    let next : j ≡ (j - 1) + 1 = omega (arith, gt) in
    inr (inr (
      gt,
      ap (λ (n : ℕ). get_or (insert xs i y) n d) next
          ∙ get_or-insert_above xs i y d (j - 1) (omega (arith, gt)) within,
    )))
    ne) (cases_order j i)

before_at : (p p' q q' : ℕ × ℕ) → p ≡ p' → q ≡ q' → IsPairBefore p' q' → IsPairBefore p q
before_at p p' q q' e f h = rw (e, f) h

put_rises : (pairs : List (ℕ × ℕ)) (p : ℕ × ℕ) (i : ℕ) → PairsRise pairs → BelongsAt p pairs i
    → PairsRise (insert pairs i p)
put_rises pairs p i up at = record {
  order = λ a b d less within.
      let long = length-insert pairs i p at.within in
      ⊎_elim
      (λ low. ⊎_elim
      (λ low'. before_at _ _ _ _ low.1 low'.1 (up.order a b d less (omega (arith, low'.0, at.within))))
      (λ more. ⊎_elim
      (λ here. before_at _ _ _ _ low.1 here.1 (at.before a d low.0))
      (λ high. before_at _ _ _ _ low.1 high.1
      (up.order a (b - 1) d (omega (arith, low.0, high.0)) (omega (arith, high.0, within, long))))
      more) (read_at pairs i p d b at.within))
      (λ more'. ⊎_elim
      (λ here. ⊎_elim
      (λ low'. absurd (omega (arith, low'.0, here.0, less)))
      (λ more. ⊎_elim
      (λ here'. absurd (omega (arith, here'.0, here.0, less)))
      (λ high. before_at _ _ _ _ here.1 high.1
      (at.after (b - 1) d (omega (arith, high.0)) (omega (arith, high.0, within, long))))
      more) (read_at pairs i p d b at.within))
      (λ high'. ⊎_elim
      (λ low'. absurd (omega (arith, low'.0, high'.0, less)))
      (λ more. ⊎_elim
      (λ here. absurd (omega (arith, here.0, high'.0, less)))
      (λ high. before_at _ _ _ _ high'.1 high.1
      (up.order (a - 1) (b - 1) d (omega (arith, high'.0, less)) (omega (arith, high.0, within, long))))
      more) (read_at pairs i p d b at.within))
      more') (read_at pairs i p d a at.within);
}

-- a list with an item put into it has its items and that one
pub put_members : {X : Type 0} (xs : List X) (i : ℕ) (x y : X)
    → Contains (insert xs i x) y ↔ (Contains xs y ⊎ (y ≡ x))
put_members xs i x y = (
  λ c. ⊎_elim (λ h. inl (subst (λ zs. Contains zs y) (take-append-drop i xs)
      (Contains-append_left (take i xs) (drop i xs) y h)))
      (λ h. ⊎_elim (λ (e : x ≡ y). inr (sym e))
      (λ h'. inl (subst (λ zs. Contains zs y) (take-append-drop i xs)
      (Contains-append_right (take i xs) (drop i xs) y h')))
      (Contains-cons_cases x (drop i xs) y h))
      (Contains-append_cases (take i xs) (x ∷ drop i xs) y c),
  λ s. ⊎_elim (λ c. ⊎_elim (λ h. Contains-append_left (take i xs) (x ∷ drop i xs) y h)
      (λ h. Contains-append_right (take i xs) (x ∷ drop i xs) y (Contains-tail x (drop i xs) y h))
      (Contains-append_cases (take i xs) (drop i xs) y (subst (λ zs. Contains zs y) (sym (take-append-drop i xs)) c)))
      (λ (e : y ≡ x). Contains-append_right (take i xs) (x ∷ drop i xs) y (Contains-head x (drop i xs) y (sym e))) s,
)

-- rising pairs without the one at an index have the others
taken_members : (pairs : List (ℕ × ℕ)) (p : ℕ × ℕ) (i : ℕ) → PairsRise pairs → i < length pairs
    → ((d : ℕ × ℕ) → get_or pairs i d ≡ p) → (q : ℕ × ℕ)
    → Contains (remove pairs i) q ↔ (Contains pairs q × (q ≢ p))
taken_members pairs p i up within is q =
    let long = length-remove pairs i within in (
      λ c. ⊎_elim
          (λ (lt : c.0 < i).
          let same = get_or-remove_below pairs i q c.0 lt within in (
            (c.0, omega (arith, lt, within), sym same ∙ c.2),
            λ (e : q ≡ p). before_apart _ _ (up.order c.0 i q lt within) (sym same ∙ c.2 ∙ e ∙ sym (is q)),
          ))
          (λ ge.
          let same = get_or-remove_above pairs i q c.0 ge within in (
            (c.0 + 1, omega (arith, c.1, long), sym same ∙ c.2),
            λ (e : q ≡ p). before_apart _ _ (up.order i (c.0 + 1) q (omega (arith, ge)) (omega (arith, c.1, long)))
                (is q ∙ sym e ∙ sym c.2 ∙ same),
          )) (cases_lt c.0 i),
      λ both.
          let c = both.0 in
          ⊎_elim
          (λ (e : c.0 ≡ i). absurd (both.1 (sym c.2 ∙ ap (λ (n : ℕ). get_or pairs n q) e ∙ is q)))
          (λ ne. ⊎_elim
          (λ (lt : c.0 < i). (c.0, omega (arith, lt, within, long), get_or-remove_below pairs i q c.0 lt within ∙ c.2))
          (λ (gt : i < c.0).
          let back : (c.0 - 1) + 1 ≡ c.0 = omega (arith, gt) in (
            c.0 - 1,
            omega (arith, gt, c.1, long),
            get_or-remove_above pairs i q (c.0 - 1) (omega (arith, gt)) within
                ∙ ap (λ (n : ℕ). get_or pairs n q) back ∙ c.2,
          ))
          ne) (cases_order c.0 i),
    )

-- ---- offsets

put_offset : (pairs : List (ℕ × ℕ)) (p : ℕ × ℕ) (i k n : ℕ) → BelongsAt p pairs i → k ≤ p.0 → IsOffsetOf k pairs n
    → IsOffsetOf k (insert pairs i p) n
put_offset pairs p i k n at le h =
    let long = length-insert pairs i p at.within in
    let low : n ≤ i = ⊎_elim (λ (lt : i < n). absurd (omega (
      arith,
      h.before i (0, 0) lt,
      le,
      first_le _ _ (at.after i (0, 0) (omega arith) (omega (arith, lt, h.within))),
    ))) (λ ge. ge) (cases_lt i n) in
    record {
      within = omega (arith, h.within, long);
      before = λ j d lt.
          omega (
            arith,
            ap (λ (q : ℕ × ℕ). q.0) (get_or-insert_below pairs i p d j (omega (arith, lt, low)) at.within),
            h.before j d lt,
          );
      after = λ j d from within. ⊎_elim
          (λ below. omega (arith, ap (λ (q : ℕ × ℕ). q.0) below.1, h.after j d from (omega (arith, below.0, at.within))))
          (λ more. ⊎_elim
          (λ here. omega (arith, ap (λ (q : ℕ × ℕ). q.0) here.1, le))
          (λ high. omega (
            arith,
            ap (λ (q : ℕ × ℕ). q.0) high.1,
            h.after (j - 1) d (omega (arith, low, high.0)) (omega (arith, high.0, within, long)),
          )) more) (read_at pairs i p d j at.within);
    }

put_offset_above : (pairs : List (ℕ × ℕ)) (p : ℕ × ℕ) (i k n : ℕ) → BelongsAt p pairs i → p.0 < k
    → IsOffsetOf k pairs n → IsOffsetOf k (insert pairs i p) (n + 1)
put_offset_above pairs p i k n at lt h =
    let long = length-insert pairs i p at.within in
    let high : i ≤ n = ⊎_elim (λ (less : n < i). absurd (omega (
      arith,
      h.after n (0, 0) (omega arith) (omega (arith, less, at.within)),
      lt,
      first_le _ _ (at.before n (0, 0) less),
    ))) (λ ge. ge) (cases_lt n i) in
    record {
      within = omega (arith, h.within, long);
      before = λ j d less. ⊎_elim
          (λ below. omega (arith, ap (λ (q : ℕ × ℕ). q.0) below.1, h.before j d (omega (arith, below.0, high))))
          (λ more. ⊎_elim
          (λ here. omega (arith, ap (λ (q : ℕ × ℕ). q.0) here.1, lt))
          (λ past. omega (
            arith,
            ap (λ (q : ℕ × ℕ). q.0) past.1,
            h.before (j - 1) d (omega (arith, past.0, less)),
          )) more) (read_at pairs i p d j at.within);
      after = λ j d from within. ⊎_elim
          (λ below. absurd (omega (arith, below.0, high, from)))
          (λ more. ⊎_elim
          (λ here. absurd (omega (arith, here.0, high, from)))
          (λ past. omega (
            arith,
            ap (λ (q : ℕ × ℕ). q.0) past.1,
            h.after (j - 1) d (omega (arith, from)) (omega (arith, past.0, within, long)),
          )) more) (read_at pairs i p d j at.within);
    }

taken_offset : (pairs : List (ℕ × ℕ)) (p : ℕ × ℕ) (i k n : ℕ) → i < length pairs
    → ((d : ℕ × ℕ) → get_or pairs i d ≡ p) → k ≤ p.0 → IsOffsetOf k pairs n → IsOffsetOf k (remove pairs i) n
taken_offset pairs p i k n within is le h =
    let long = length-remove pairs i within in
    let first : (get_or pairs i (0, 0)).0 ≡ p.0 = ap (λ (q : ℕ × ℕ). q.0) (is (0, 0)) in
    let low : n ≤ i = ⊎_elim (λ (lt : i < n). absurd (omega (arith, h.before i (0, 0) lt, le, first)))
    (λ ge. ge) (cases_lt i n) in
    record {
      within = omega (arith, low, within, long);
      before = λ j d lt.
          omega (
            arith,
            ap (λ (q : ℕ × ℕ). q.0) (get_or-remove_below pairs i d j (omega (arith, lt, low)) within),
            h.before j d lt,
          );
      after = λ j d from inside. ⊎_elim
          (λ (lt : j < i). omega (
            arith,
            ap (λ (q : ℕ × ℕ). q.0) (get_or-remove_below pairs i d j lt within),
            h.after j d from (omega (arith, lt, within)),
          ))
          (λ ge. omega (
            arith,
            ap (λ (q : ℕ × ℕ). q.0) (get_or-remove_above pairs i d j ge within),
            h.after (j + 1) d (omega (arith, from)) (omega (arith, inside, long)),
          )) (cases_lt j i);
    }

-- the offset of a number above the pair's first lies behind the pair
behind_pair : (pairs : List (ℕ × ℕ)) (p : ℕ × ℕ) (i k n : ℕ) → i < length pairs
    → ((d : ℕ × ℕ) → get_or pairs i d ≡ p) → p.0 < k → IsOffsetOf k pairs n → i < n
behind_pair pairs p i k n within is lt h =
    let first : (get_or pairs i (0, 0)).0 ≡ p.0 = ap (λ (q : ℕ × ℕ). q.0) (is (0, 0)) in
    ⊎_elim (λ less. less) (λ ge. absurd (omega (arith, h.after i (0, 0) ge within, first, lt))) (cases_lt i n)

taken_offset_above : (pairs : List (ℕ × ℕ)) (p : ℕ × ℕ) (i k m n : ℕ) → i < length pairs
    → ((d : ℕ × ℕ) → get_or pairs i d ≡ p) → p.0 < k → m + 1 ≡ n → IsOffsetOf k pairs n
    → IsOffsetOf k (remove pairs i) m
taken_offset_above pairs p i k m n within is lt next h =
    let long = length-remove pairs i within in
    let high = behind_pair pairs p i k n within is lt h in
    record {
      within = omega (arith, h.within, next, long);
      before = λ j d less. ⊎_elim
          (λ (below : j < i). omega (
            arith,
            ap (λ (q : ℕ × ℕ). q.0) (get_or-remove_below pairs i d j below within),
            h.before j d (omega (arith, below, high)),
          ))
          (λ ge. omega (
            arith,
            ap (λ (q : ℕ × ℕ). q.0) (get_or-remove_above pairs i d j ge within),
            h.before (j + 1) d (omega (arith, less, next)),
          )) (cases_lt j i);
      after = λ j d from inside.
          omega (
            arith,
            ap (λ (q : ℕ × ℕ). q.0) (get_or-remove_above pairs i d j (omega (arith, from, next, high)) within),
            h.after (j + 1) d (omega (arith, from, next)) (omega (arith, inside, long)),
          );
    }

-- a pair of the block begins with one of the block's numbers
pub first_in : (base : ℕ) (pairs : List (ℕ × ℕ)) (offsets : List ℕ) (p : ℕ × ℕ) (i : ℕ)
    → HasOffsets base pairs offsets → i < length pairs → ((d : ℕ × ℕ) → get_or pairs i d ≡ p)
    → (base ≤ p.0) × (p.0 < base + (length offsets - 1))
first_in base pairs offsets p i h inside at = h.firsts p (i, inside, at p)

-- ---- the block

-- the block with a pair more
pub put_table : (base : ℕ) (pairs new : List (ℕ × ℕ)) (offsets raised : List ℕ) (p : ℕ × ℕ) (i : ℕ)
    → HasOffsets base pairs offsets → BelongsAt p pairs i → (base ≤ p.0) × (p.0 < base + (length offsets - 1))
    → new ≡ insert pairs i p → AreRaisedFrom ((p.0 - base) + 1) offsets raised → HasOffsets base new raised
put_table base pairs new offsets raised p i h at first is up = rw is (record {
  rise = put_rises pairs p i h.rise at;
  begins = λ k lt.
      let within : k < length offsets = omega (arith, lt, up.long) in
      ⊎_elim
      (λ (low : k < (p.0 - base) + 1). rw (up.before k low)
      (put_offset pairs p i (base + k) _ at (omega (arith, low, first.0)) (h.begins k within)))
      (λ high. rw (up.after k high within)
      (put_offset_above pairs p i (base + k) _ at (omega (arith, high, first.0)) (h.begins k within)))
      (cases_lt k ((p.0 - base) + 1));
  reach = omega (arith, h.reach, up.long);
  fits = omega (arith, h.fits, up.long);
  firsts = λ q c. ⊎_elim
      (λ old. let w = h.firsts q old in (w.0, omega (arith, w.1, up.long)))
      (λ (e : q ≡ p).
      let same = ap (λ (x : ℕ × ℕ). x.0) e in (omega (arith, same, first.0), omega (arith, same, first.1, up.long)))
      ((put_members pairs i p q).0 c);
})

pub put_gains : (pairs new : List (ℕ × ℕ)) (p : ℕ × ℕ) (i : ℕ) → PairsRise pairs → BelongsAt p pairs i
    → new ≡ insert pairs i p → GainsPair p pairs new
put_gains pairs new p i up at is =
    rw is (record { rise = put_rises pairs p i up at; members = put_members pairs i p })

-- a pair that is there need not be put in
pub there_gains : (pairs : List (ℕ × ℕ)) (p : ℕ × ℕ) → PairsRise pairs → Contains pairs p → GainsPair p pairs pairs
there_gains pairs p up there = record {
  rise = up;
  members = λ q. (λ c. inl c, λ s. ⊎_elim (λ c. c) (λ (e : q ≡ p). subst (Contains pairs) (sym e) there) s);
}

-- the pair that a binary search found
pub found_at : (pairs : List (ℕ × ℕ)) (p : ℕ × ℕ) (i : ℕ) → IsSearchInRange (Ok i) (length pairs)
    → IsBinarySearchResult (λ y. pair_cmp y p) pairs (Ok i)
    → (i < length pairs) × ((d : ℕ × ℕ) → get_or pairs i d ≡ p)
found_at pairs p i in_range h =
    (in_range, λ d. get_or_default pairs i d p in_range ∙ same_from_equal _ _ (h p))

-- the block with a pair less
pub taken_table : (base : ℕ) (pairs new : List (ℕ × ℕ)) (offsets lowered : List ℕ) (p : ℕ × ℕ) (i : ℕ)
    → HasOffsets base pairs offsets → i < length pairs → ((d : ℕ × ℕ) → get_or pairs i d ≡ p) → new ≡ remove pairs i
    → AreLoweredFrom ((p.0 - base) + 1) offsets lowered → HasOffsets base new lowered
taken_table base pairs new offsets lowered p i h inside at is down =
    let first = first_in base pairs offsets p i h inside at in
    rw is (record {
      rise = record { order = all_pairs_remove IsPairBefore pairs i inside h.rise.order };
      begins = λ k lt.
          let within : k < length offsets = omega (arith, lt, down.long) in
          ⊎_elim
          (λ (low : k < (p.0 - base) + 1).
          rw (down.before k low)
          (taken_offset pairs p i (base + k) _ inside at (omega (arith, low, first.0)) (h.begins k within)))
          (λ high. taken_offset_above pairs p i (base + k) _ _ inside at (omega (arith, high, first.0))
          (down.after k high within) (h.begins k within))
          (cases_lt k ((p.0 - base) + 1));
      reach = omega (arith, h.reach, down.long);
      fits = omega (arith, h.fits, down.long);
      firsts = λ q c.
          let w = h.firsts q ((taken_members pairs p i h.rise inside at q).0 c).0 in
          (w.0, omega (arith, w.1, down.long));
    })

pub taken_loses : (pairs new : List (ℕ × ℕ)) (p : ℕ × ℕ) (i : ℕ) → PairsRise pairs → i < length pairs
    → ((d : ℕ × ℕ) → get_or pairs i d ≡ p) → new ≡ remove pairs i → LosesPair p pairs new
taken_loses pairs new p i up inside at is = rw is (record {
  rise = record { order = all_pairs_remove IsPairBefore pairs i inside up.order };
  members = taken_members pairs p i up inside at;
})

-- a pair that isn't there need not be taken out
pub none_loses : (pairs : List (ℕ × ℕ)) (p : ℕ × ℕ) → PairsRise pairs → ¬ Contains pairs p → LosesPair p pairs pairs
none_loses pairs p up lacks = record {
  rise = up;
  members = λ q. (λ c. (c, λ (e : q ≡ p). lacks (subst (Contains pairs) e c)), λ both. both.0);
}

-- offsets have room for one more, and those above a pair for one less
pub offset_small : (base : ℕ) (pairs : List (ℕ × ℕ)) (offsets : List ℕ) (k : ℕ) → HasOffsets base pairs offsets
    → k < length offsets → get_or offsets k 0 ≤ length pairs
offset_small base pairs offsets k h lt = (h.begins k lt).within

pub offset_some : (base : ℕ) (pairs : List (ℕ × ℕ)) (offsets : List ℕ) (p : ℕ × ℕ) (i k : ℕ)
    → HasOffsets base pairs offsets → i < length pairs → ((d : ℕ × ℕ) → get_or pairs i d ≡ p)
    → (p.0 - base) + 1 ≤ k → k < length offsets → 0 < get_or offsets k 0
offset_some base pairs offsets p i k h inside at le lt =
    let first = first_in base pairs offsets p i h inside at in
    let high = behind_pair pairs p i (base + k) _ inside at (omega (arith, le, first.0)) (h.begins k lt) in
    omega (arith, high)
