-- Which steps and ends a walk has behind a change of its numbers, and not before it.
use Rattle.std.proofs.Common.{◌≡◌, ◌≤◌, ◌<◌, ◌+◌, ◌⊎◌, ◌↔◌, ℕ, arith, sym, subst, inl, inr, ⊎_elim}
use Rattle.std.proofs.lemmas.Bool.{cases_eq, cases_lt}
use Rattle.oracle_face.specs.Walks.{IsFree, IsWalkEnd, IsWalkStart, IsWalkStep}
use Rattle.aba_encoding.specs.Places.{HasNoneAfter, IsNextAfter, IsPlaceBefore}

-- the walk has the step, the end, and had not
abbrev pub IsNewStep : (ℕ → Type 0) → (ℕ → Type 0) → ℕ → ℕ → Type 0
IsNewStep P Q i j = IsWalkStep Q i j × (IsWalkStep P i j → ⊥)

abbrev pub IsNewEnd : (ℕ → Type 0) → (ℕ → Type 0) → ℕ → Type 0
IsNewEnd P Q i = IsWalkEnd Q i × (IsWalkEnd P i → ⊥)

-- the same numbers as before, with one more, and with one less
pub record Gained (P Q : ℕ → Type 0) (n : ℕ) : Type 0 where
  pub here : Q n
  pub fresh : P n → ⊥
  pub kept : (y : ℕ) → P y → Q y
  pub others : (y : ℕ) → Q y → P y ⊎ (y ≡ n)
  pub low : 1 ≤ n

pub record Lost (P Q : ℕ → Type 0) (n : ℕ) : Type 0 where
  pub was : P n
  pub gone : Q n → ⊥
  pub kept : (y : ℕ) → P y → (y ≡ n → ⊥) → Q y
  pub others : (y : ℕ) → Q y → P y
  pub under : n < 1000001

module _ (P Q : ℕ → Type 0) where
  start_of : ((y : ℕ) → P y → Q y) → (i : ℕ) → IsWalkStart P i → IsWalkStart Q i
  start_of kept i at = ⊎_elim (λ e. inl e) (λ h. inr (h.0, kept h.0 h.1, h.2)) at

  free_of : ((y : ℕ) → P y → Q y) → (i j : ℕ) → IsFree Q i j → IsFree P i j
  free_of kept i j gap y p = gap y (kept y p)

  -- ---- the same numbers

  pub same_step : ((y : ℕ) → P y ↔ Q y) → (i j : ℕ) → IsWalkStep P i j → IsWalkStep Q i j
  same_step same i j is = record {
    start = start_of (λ y. (same y).0) i is.start;
    order = is.order;
    gap = λ y q. is.gap y ((same y).1 q);
    stop = (same j).0 is.stop;
  }

  pub same_end : ((y : ℕ) → P y ↔ Q y) → (i : ℕ) → IsWalkEnd P i → IsWalkEnd Q i
  same_end same i is = record { start = start_of (λ y. (same y).0) i is.start; gap = λ y q. is.gap y ((same y).1 q) }

  -- ---- one more

  module _ (n : ℕ) (gained : Gained P Q n) where
    -- only the start past n is new
    old_start : (i : ℕ) → (i ≡ n + 1 → ⊥) → IsWalkStart Q i → IsWalkStart P i
    old_start i other at =
        ⊎_elim (λ e. inl e)
        (λ h. let is = h.2 in
        ⊎_elim (λ p. inr (h.0, p, is)) (λ e. absurd (other (omega arith))) (gained.others h.0 h.1)) at

    new_start : (i : ℕ) → i ≡ n + 1 → IsWalkStart P i → ⊥
    new_start i e at =
        let low = gained.low in
        ⊎_elim (λ one. omega arith)
        (λ h. let is = h.2 in let same : h.0 ≡ n = omega arith in gained.fresh (subst P same h.1)) at

    pub gained_step : (i j : ℕ) → IsNewStep P Q i j
        ↔ ((IsPlaceBefore Q n i × (j ≡ n)) ⊎ ((i ≡ n + 1) × IsNextAfter Q n j))
    gained_step i j = (
      λ h. let is = h.0 in
          ⊎_elim
          (λ (e : j ≡ n). inl (
            record {
              start = is.start;
              order = subst (λ k. i ≤ k) e is.order;
              gap = subst (λ k. IsFree Q i k) e is.gap;
            },
            e,
          ))
          (λ other. ⊎_elim
          (λ (e : i ≡ n + 1). let order = is.order in inr (
            e,
            record { past = omega arith; stop = is.stop; gap = subst (λ k. IsFree Q k j) e is.gap },
          ))
          (λ same. absurd (h.1 (record {
            start = old_start i same is.start;
            order = is.order;
            gap = free_of gained.kept i j is.gap;
            stop = ⊎_elim (λ p. p) (λ e. absurd (other e)) (gained.others j is.stop);
          })))
          (cases_eq i (n + 1)))
          (cases_eq j n),
      λ s. ⊎_elim
          (λ h. let place = h.0 in let e : j ≡ n = h.1 in (
            subst (λ k. IsWalkStep Q i k) (sym e)
                (record { start = place.start; order = place.order; gap = place.gap; stop = gained.here }),
            λ is. gained.fresh (subst P e is.stop),
          ))
          (λ h. let e : i ≡ n + 1 = h.0 in let next = h.1 in let past = next.past in (
            record {
              start = inr (n, gained.here, e);
              order = omega arith;
              gap = subst (λ k. IsFree Q k j) (sym e) next.gap;
              stop = next.stop;
            },
            λ is. new_start i e is.start,
          )) s,
    )

    pub gained_end : (i : ℕ) → IsNewEnd P Q i ↔ ((i ≡ n + 1) × HasNoneAfter Q n)
    gained_end i = (
      λ h. let is = h.0 in
          ⊎_elim (λ (e : i ≡ n + 1). (e, subst (λ k. IsFree Q k 1000001) e is.gap))
          (λ same. absurd (h.1 (record {
            start = old_start i same is.start;
            gap = free_of gained.kept i 1000001 is.gap;
          })))
          (cases_eq i (n + 1)),
      λ h. let e : i ≡ n + 1 = h.0 in (
        record { start = inr (n, gained.here, e); gap = subst (λ k. IsFree Q k 1000001) (sym e) h.1 },
        λ is. new_start i e is.start,
      ),
    )

    -- one that is larger than all others
    module _ (top : (y : ℕ) → P y → y < n) where
      none_past : (y : ℕ) → Q y → n < y → ⊥
      none_past y q late =
          ⊎_elim (λ p. let less = top y p in omega arith) (λ e. omega arith) (gained.others y q)

      pub top_step : (i j : ℕ) → IsNewStep P Q i j ↔ (IsPlaceBefore Q n i × (j ≡ n))
      top_step i j = (
        λ h. ⊎_elim (λ w. w) (λ w. absurd (none_past j w.1.stop w.1.past)) ((gained_step i j).0 h),
        λ w. (gained_step i j).1 (inl w),
      )

      pub top_end : (i : ℕ) → IsNewEnd P Q i ↔ (i ≡ n + 1)
      top_end i = (
        λ h. ((gained_end i).0 h).0,
        λ e. (gained_end i).1 (e, λ y q late early. none_past y q (omega arith)),
      )

  -- ---- one less

  module _ (n : ℕ) (lost : Lost P Q n) where
    old_free : (i j : ℕ) → IsFree Q i j → (n < i) ⊎ (j ≤ n) → IsFree P i j
    old_free i j gap out y p late early =
        ⊎_elim (λ (e : y ≡ n). ⊎_elim (λ lt. omega arith) (λ le. omega arith) out)
        (λ other. gap y (lost.kept y p other) late early) (cases_eq y n)

    -- a gap that is new has n in it
    holds : (i j : ℕ) → IsFree Q i j → (IsFree P i j → ⊥) → (i ≤ n) × (n < j)
    holds i j gap not_so =
        ⊎_elim (λ lt. absurd (not_so (old_free i j gap (inl lt))))
        (λ ge. ⊎_elim (λ lt. (omega arith, lt)) (λ out. absurd (not_so (old_free i j gap (inr (omega arith)))))
        (cases_lt n j)) (cases_lt n i)

    -- and has it where none of the others lies on either side
    joined : (i j : ℕ) → IsFree Q i n → IsFree Q (n + 1) j → IsFree Q i j
    joined i j left right y q late early =
        ⊎_elim (λ lt. left y q late lt)
        (λ ge. ⊎_elim (λ (e : y ≡ n). lost.gone (subst Q e q)) (λ other. right y q (omega arith) early)
        (cases_eq y n)) (cases_lt y n)

    start_before : (i : ℕ) → IsWalkStart Q i → IsWalkStart P i
    start_before i = ⊎_elim (λ e. inl e) (λ s. inr (s.0, lost.others s.0 s.1, s.2))

    -- so a walk comes over it by the place before n
    over : (i j : ℕ) → IsWalkStart Q i → IsFree Q i j → (IsFree P i j → ⊥)
        → IsPlaceBefore Q n i × (n < j) × IsFree Q (n + 1) j
    over i j start gap not_so =
        let in_gap = holds i j gap not_so in
        let left = in_gap.0 in
        let right = in_gap.1 in (
          record { start = start; order = left; gap = λ y q late early. gap y q late (omega arith) },
          right,
          λ y q late early. gap y q (omega arith) early,
        )

    pub lost_step : (i j : ℕ) → IsNewStep P Q i j ↔ (IsPlaceBefore Q n i × IsNextAfter Q n j)
    lost_step i j = (
      λ h. let is = h.0 in
          let round = over i j is.start is.gap (λ gap. h.1 (record {
            start = start_before i is.start;
            order = is.order;
            gap = gap;
            stop = lost.others j is.stop;
          })) in
          (round.0, record { past = round.1; stop = is.stop; gap = round.2 }),
      λ h. let place = h.0 in
          let next = h.1 in
          let order = place.order in
          let past = next.past in (
            record {
              start = place.start;
              order = omega arith;
              gap = joined i j place.gap next.gap;
              stop = next.stop;
            },
            λ is. is.gap n lost.was place.order next.past,
          ),
    )

    pub lost_end : (i : ℕ) → IsNewEnd P Q i ↔ (IsPlaceBefore Q n i × HasNoneAfter Q n)
    lost_end i = (
      λ h. let is = h.0 in
          let round = over i 1000001 is.start is.gap (λ gap. h.1 (record { start = start_before i is.start; gap = gap })) in
          (round.0, round.2),
      λ h. let place = h.0 in (
        record { start = place.start; gap = joined i 1000001 place.gap h.1 },
        λ is. is.gap n lost.was place.order lost.under,
      ),
    )
