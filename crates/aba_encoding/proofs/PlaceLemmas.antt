-- Where a number stands among the rising numbers of a kind, and on the walk along them.
use Rattle.std.proofs.Common.{◌≡◌, ◌≤◌, ◌<◌, ◌+◌, ◌-◌, ℕ, List, length, get_or, arith, refl, ap, ◌∙◌, inl, inr, ⊎_elim}
use Rattle.std.proofs.lemmas.Bool.{cases_eq, cases_lt}
use Rattle.std.proofs.lemmas.List.{get_or_default}
use Rattle.std.proofs.lemmas.List.Elements.{Contains-get_or}
use Rattle.oracle_face.specs.Walks.{IsWalkStart}
use Rattle.af_encoding.proofs.WalkLemmas.{not_apart}
use Rattle.aba_encoding.proofs.WalkLemmas.{AreAhead}
use Rattle.aba_encoding.specs.Places.{HasNoneAfter, IsCutAt, IsNextAfter, IsPlaceBefore}

module _ (P : ℕ → Type 0) (low : (y : ℕ) → P y → 1 ≤ y) (high : (y : ℕ) → P y → y < 1000001) where
  -- ---- where a cut of the numbers leads

  module _ (stops : List ℕ) (ahead : AreAhead P low high 1 stops) where
    stop_at : (k : ℕ) → k < length stops → P (get_or stops k 0)
    stop_at k lt = (ahead.sound (get_or stops k 0) (Contains-get_or stops k 0 lt)).0

    rising : (i j : ℕ) → i ≤ j → j < length stops → get_or stops i 0 ≤ get_or stops j 0
    rising i j le lt =
        ⊎_elim (λ e. let same = ap (λ k. get_or stops k 0) e in omega arith)
        (λ other. let less = ahead.rise i j 0 (omega arith) lt in omega arith) (cases_eq i j)

    index_of : (y : ℕ) → P y → (k : ℕ) × (k < length stops) × (get_or stops k 0 ≡ y)
    index_of y p =
        let c = ahead.whole y p (low y p) in (c.0, c.1, get_or_default stops c.0 0 y c.1 ∙ c.2)

    pub place_first : (n index : ℕ) → IsCutAt n stops index → index ≡ 0 → 1 ≤ n → IsPlaceBefore P n 1
    place_first n index cut none first = record {
      start = inl refl;
      order = first;
      gap = λ y p late early.
          let k = index_of y p in
          let ge = cut.after k.0 (omega arith) k.1 in
          let is = k.2 in
          omega arith;
    }

    pub place_next : (n index : ℕ) → IsCutAt n stops index → (index ≡ 0 → ⊥) → index ≤ length stops
        → IsPlaceBefore P n (get_or stops (index - 1) 0 + 1)
    place_next n index cut some fits =
        let some_low : 0 < index = ⊎_elim (λ e. absurd (some e)) (λ other. omega arith) (cases_eq index 0) in
        let last = cut.before (index - 1) (omega arith) (omega arith) in
        record {
          start = inr (get_or stops (index - 1) 0, stop_at (index - 1) (omega arith), refl);
          order = omega arith;
          gap = λ y p late early.
              let k = index_of y p in
              let is = k.2 in
              let within = k.1 in
              ⊎_elim (λ lt. let le = rising k.0 (index - 1) (omega arith) (omega arith) in omega arith)
              (λ ge. let past = cut.after k.0 ge within in omega arith) (cases_lt k.0 index);
        }

    pub next_there : (n index : ℕ) → IsCutAt (n + 1) stops index → index < length stops
        → IsNextAfter P n (get_or stops index 0)
    next_there n index cut within =
        let past = cut.after index (omega arith) within in
        record {
          past = omega arith;
          stop = stop_at index within;
          gap = λ y p late early.
              let k = index_of y p in
              let is = k.2 in
              let inside = k.1 in
              ⊎_elim (λ lt. let under = cut.before k.0 lt inside in omega arith)
              (λ ge. let le = rising index k.0 ge inside in omega arith) (cases_lt k.0 index);
        }

    pub none_there : (n index : ℕ) → IsCutAt (n + 1) stops index → index ≡ length stops → HasNoneAfter P n
    none_there n index cut all y p late early =
        let k = index_of y p in
        let is = k.2 in
        let inside = k.1 in
        let under = cut.before k.0 (omega arith) inside in
        omega arith

  -- ---- one place, and one next number

  start_low : (i : ℕ) → IsWalkStart P i → 1 ≤ i
  start_low i at = ⊎_elim (λ e. omega arith) (λ h. let e = h.2 in omega arith) at

  no_later_place : (n i k : ℕ) → IsPlaceBefore P n i → IsPlaceBefore P n k → i < k → ⊥
  no_later_place n i k one two lt =
      let first = start_low i one.start in
      let order = two.order in
      ⊎_elim (λ e. omega arith)
      (λ h. let is = h.2 in one.gap h.0 h.1 (omega arith) (omega arith)) two.start

  pub one_place : (n i k : ℕ) → IsPlaceBefore P n i → IsPlaceBefore P n k → k ≡ i
  one_place n i k one two = not_apart k i (no_later_place n k i two one) (no_later_place n i k one two)

  no_later_next : (n j m : ℕ) → IsNextAfter P n j → IsNextAfter P n m → j < m → ⊥
  no_later_next n j m one two lt = let past = one.past in two.gap j one.stop (omega arith) lt

  pub one_next : (n j m : ℕ) → IsNextAfter P n j → IsNextAfter P n m → m ≡ j
  one_next n j m one two = not_apart m j (no_later_next n m j two one) (no_later_next n j m one two)

  pub next_ends : (n j : ℕ) → IsNextAfter P n j → HasNoneAfter P n → ⊥
  next_ends n j next none = let past = next.past in none j next.stop (omega arith) (high j next.stop)
