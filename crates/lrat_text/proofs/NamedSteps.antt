-- The steps that ids name.
use Rattle.std.proofs.Common.{◌≡◌, ◌≢◌, ℕ, zero, suc, ◌+◌, ◌-◌, ◌<◌, ◌≤◌, ◌==◌, List, ◌++◌, length, length-append, get_or, map, take, [], ◌∷◌, inl, inr, ap, ◌∙◌, arith}
use Rattle.std.specs.Prelude.{Contains}
use Rattle.std.specs.List.{position_or_len, range_with_len}
use Rattle.std.specs.List.Sorted.{IsStrictlyIncreasing}
use Rattle.std.proofs.lemmas.Bool.{cases_lt, cond-true, cond-false, eq-eqb, ne_eqb, lt-ltb, le-ltb}
use Rattle.std.proofs.lemmas.List.{get_or_default, get_or_append_left, get_or-append-add, take_more, map-append}
use Rattle.std.proofs.lemmas.List.Elements.{Contains-get_or}
use Rattle.std.proofs.lemmas.List.FromFn.{length-range_with_len, get_or-range_with_len}
use Rattle.std.proofs.lemmas.List.Sums.{position_or_len_is}
use Rattle.std.proofs.lemmas.List.Kept.{AllPairs-from_increasing}
use Rattle.lrat_text.specs.Checking.{AreIds, number_of, number_at}

-- the number of an id at an index of a rising list
pub number_at_index : (ids : List ℕ) (k id : ℕ) → IsStrictlyIncreasing ids → k < length ids → get_or ids k 0 ≡ id
    → number_of ids id ≡ k + 1
number_at_index ids k id up within here =
    let at : position_or_len (λ i. i == id) ids ≡ k = position_or_len_is (λ i. i == id) ids k 0 (omega arith)
    (λ j lt. ne_eqb (get_or ids j 0) id
    (λ e. let less = AllPairs-from_increasing ids up j k 0 lt within in omega (arith, less, e, here)))
    (λ lt. eq-eqb (get_or ids k 0) id here) in
    ap number_at (cond-true _ _ _ (lt-ltb (position_or_len (λ i. i == id) ids) (length ids) (omega arith)))
    ∙ ap (λ n. n + 1) at

-- an id that isn't there names no step
pub number_of_none : (ids : List ℕ) (id : ℕ) → ((k : ℕ) → k < length ids → get_or ids k 0 ≢ id) → number_of ids id ≡ 0
number_of_none ids id none =
    let at : position_or_len (λ i. i == id) ids ≡ length ids = position_or_len_is (λ i. i == id) ids (length ids) 0
    (omega arith) (λ j lt. ne_eqb (get_or ids j 0) id (none j lt)) (λ lt. absurd (omega arith)) in
    ap number_at (cond-false _ _ _ (le-ltb (position_or_len (λ i. i == id) ids) (length ids) (omega arith)))

-- each id of a line is above the numbers of the steps before it
pub ids_high : (count : ℕ) (ids : List ℕ) → AreIds count ids → (k : ℕ) → k < length ids → count + k < get_or ids k 0
ids_high count ids h zero lt = let a = h.above (get_or ids 0 0) (Contains-get_or ids 0 0 lt) in omega arith
ids_high count ids h (suc k) lt =
    let before = ids_high count ids h k (omega arith) in
    let up = h.rise k (omega arith) in
    let same : get_or ids (k + 1) 0 ≡ get_or ids (suc k) 0 = ap (λ i. get_or ids i 0) (omega arith) in
    omega (arith, before, up, same)

-- all ids: those of the CNF, and behind them those of the lines
abbrev pub all_ids : ℕ → List ℕ → List ℕ
all_ids count ids = range_with_len 1 count ++ ids

pub length-all_ids : (count : ℕ) (ids : List ℕ) → length (all_ids count ids) ≡ count + length ids
length-all_ids count ids =
    let a = length-append (range_with_len 1 count) ids in
    let b = length-range_with_len 1 count in
    omega (arith, a, b)

pub all_ids-low : (count : ℕ) (ids : List ℕ) (k : ℕ) → k < count → get_or (all_ids count ids) k 0 ≡ k + 1
all_ids-low count ids k lt =
    let b = length-range_with_len 1 count in
    let left = get_or_append_left (range_with_len 1 count) ids 0 k (omega (arith, b)) in
    let at = get_or-range_with_len 1 count k 0 lt in
    omega (arith, left, at)

pub all_ids-high : (count : ℕ) (ids : List ℕ) (k : ℕ) → get_or (all_ids count ids) (count + k) 0 ≡ get_or ids k 0
all_ids-high count ids k =
    let b = length-range_with_len 1 count in
    let right = get_or-append-add (range_with_len 1 count) ids k 0 in
    ap (λ n. get_or (all_ids count ids) n 0) (omega (arith, b)) ∙ right

-- they rise
pub all_ids-rise : (count : ℕ) (ids : List ℕ) → AreIds count ids → IsStrictlyIncreasing (all_ids count ids)
all_ids-rise count ids h k within =
    let long = length-all_ids count ids in
    elim (cases_lt (k + 1) count) [
      | inl low ↦
          let a = all_ids-low count ids k (omega arith) in
          let b = all_ids-low count ids (k + 1) low in
          omega (arith, a, b)
      | inr high ↦ above k within high long
    ]
  where
    later : (j k : ℕ) → k + 1 < length (all_ids count ids) → k ≡ count + j
        → length (all_ids count ids) ≡ count + length ids
        → get_or (all_ids count ids) k 0 < get_or (all_ids count ids) (k + 1) 0
    later j k within at long =
        let a : get_or (all_ids count ids) k 0 ≡ get_or ids j 0
        = ap (λ n. get_or (all_ids count ids) n 0) at ∙ all_ids-high count ids j in
        let b : get_or (all_ids count ids) (k + 1) 0 ≡ get_or ids (j + 1) 0
        = ap (λ n. get_or (all_ids count ids) n 0) (omega arith) ∙ all_ids-high count ids (j + 1) in
        let up = h.rise j (omega arith) in
        omega (arith, a, b, up)

    above : (k : ℕ) → k + 1 < length (all_ids count ids) → count ≤ k + 1
        → length (all_ids count ids) ≡ count + length ids
        → get_or (all_ids count ids) k 0 < get_or (all_ids count ids) (k + 1) 0
    above k within high long = elim (cases_lt k count) [
      | inl here ↦
          let a = all_ids-low count ids k here in
          let b = all_ids-high count ids 0 in
          let same : get_or (all_ids count ids) (k + 1) 0 ≡ get_or (all_ids count ids) (count + 0) 0
          = ap (λ n. get_or (all_ids count ids) n 0) (omega arith) in
          let up = ids_high count ids h 0 (omega arith) in
          omega (arith, a, b, same, up)
      | inr behind ↦ later (k - count) k within (omega arith) long
    ]

-- the number of a clause of the CNF
pub number_of-low : (count : ℕ) (ids : List ℕ) (id : ℕ) → AreIds count ids → 0 < id → id ≤ count
    → number_of (all_ids count ids) id ≡ id
number_of-low count ids zero h pos le = absurd (omega arith)
number_of-low count ids (suc i) h pos le =
    let long = length-all_ids count ids in
    let at = all_ids-low count ids i (omega arith) in
    let found = number_at_index (all_ids count ids) i (suc i) (all_ids-rise count ids h) (omega arith) (omega arith) in
    omega (arith, found)

-- the number of a line
pub number_of-line : (count : ℕ) (ids : List ℕ) (k id : ℕ) → AreIds count ids → k < length ids → get_or ids k 0 ≡ id
    → number_of (all_ids count ids) id ≡ count + k + 1
number_of-line count ids k id h lt here =
    let long = length-all_ids count ids in
    number_at_index (all_ids count ids) (count + k) id (all_ids-rise count ids h) (omega arith)
    (all_ids-high count ids k ∙ here)

-- no step has an id that is 0, or is over the CNF's clauses and no line's
pub number_of-nothing : (count : ℕ) (ids : List ℕ) (id : ℕ) → AreIds count ids
    → (0 < id → id ≤ count → ⊥) → (Contains ids id → ⊥) → number_of (all_ids count ids) id ≡ 0
number_of-nothing count ids id h not_low not_line = number_of_none (all_ids count ids) id (λ k lt e.
    elim (cases_lt k count) [
      | inl low ↦ let at = all_ids-low count ids k low in not_low (omega (arith, at, e)) (omega (arith, at, e))
      | inr high ↦ line (k - count) k lt (omega arith) e
    ])
  where
    line : (j k : ℕ) → k < length (all_ids count ids) → k ≡ count + j → get_or (all_ids count ids) k 0 ≡ id → ⊥
    line j k lt at e =
        let long = length-all_ids count ids in
        let same : get_or (all_ids count ids) k 0 ≡ get_or ids j 0
        = ap (λ n. get_or (all_ids count ids) n 0) at ∙ all_ids-high count ids j in
        let within : j < length ids = omega arith in
        let here : get_or ids j 0 ≡ id = omega (arith, same, e) in
        not_line (j, within, get_or_default ids j id 0 within ∙ here)

-- a binary search that finds nothing tells that nothing is there
pub not_found : (ids : List ℕ) (id place : ℕ) → (place ≤ length ids) × ((k : ℕ) → k < place → get_or ids k 0 < id)
    × ((k : ℕ) → place ≤ k → k < length ids → id < get_or ids k 0)
    → Contains ids id → ⊥
not_found ids id place h c =
    let at : get_or ids c.0 0 ≡ id = get_or_default ids c.0 0 id c.1 ∙ c.2 in
    elim (cases_lt c.0 place) [
      | inl low ↦ let less = h.1 c.0 low in omega (arith, at, less)
      | inr high ↦ let more = h.2 c.0 high c.1 in omega (arith, at, more)
    ]

-- the numbers of hints, with one more
pub named_more : (number : ℕ → ℕ) (hints : List ℕ) (i : ℕ) → i < length hints
    → map number (take (i + 1) hints) ≡ map number (take i hints) ++ number (get_or hints i 0) ∷ []
named_more number hints i lt = ap (map number) (take_more hints i 0 lt) ∙ map-append number (take i hints) _
