-- Walks along numbers of which something holds: there is one step to each of them and one end.
use Rattle.std.proofs.Common.{◌≡◌, ◌≤◌, ◌<◌, ◌+◌, ◌⊎◌, ℕ, List, [], ◌∷◌, arith, ap, refl, sym, inl, inr, ⊎_elim, subst}
use Rattle.std.specs.Prelude.{Contains, AllPairs}
use Rattle.std.proofs.lemmas.Bool.{cases_lt}
use Rattle.std.proofs.lemmas.List.Elements.{Contains-append_left, Contains-append_right, Contains-append_cases}
use Rattle.lists.proofs.Membership.{Contains-nil, Contains-head, Contains-tail, Contains-cons_cases}
use Rattle.af_encoding.proofs.EnumerationLemmas.{pairs_head, pairs_tail}
use Rattle.af_encoding.proofs.WalkLemmas.{not_apart}
use Rattle.aba_encoding.specs.Listing.{walk_along}
use Rattle.oracle_face.specs.Walks.{IsFree, IsWalkStart, IsWalkStep, IsWalkEnd}

-- what comes behind a number is larger
pub later_more : {X : Type 0} (key : X → ℕ) (x : X) (xs : List X) → AllPairs (λ a b. key a < key b) (x ∷ xs) → (y : X)
    → Contains xs y → key x < key y
later_more key x xs up y c =
    let more = pairs_head (λ a b. key a < key b) x xs up c.0 y c.1 in
    let at = ap key c.2 in
    omega arith

module _ (P : ℕ → Type 0) (low : (y : ℕ) → P y → 1 ≤ y) (high : (y : ℕ) → P y → y < 1000001) where
  start_low : (i : ℕ) → IsWalkStart P i → 1 ≤ i
  start_low i at = ⊎_elim (λ e. omega arith) (λ h. let e = h.2 in omega arith) at

  pub start_high : (i : ℕ) → IsWalkStart P i → i ≤ 1000001
  start_high i at =
      ⊎_elim (λ e. omega arith) (λ h. let e = h.2 in let less = high h.0 h.1 in omega arith) at

  pub start_position : (i : ℕ) → IsWalkStart P i → 1 ≤ i
  start_position = start_low

  -- a start after the beginning of a gap lies past its end
  past_gap : (i k j : ℕ) → 1 ≤ i → IsFree P i j → IsWalkStart P k → i < k → j < k
  past_gap i k j first gap at later =
      ⊎_elim (λ e. absurd (omega arith))
      (λ h. let e = h.2 in
      ⊎_elim (λ before. absurd (gap h.0 h.1 (omega arith) before)) (λ behind. omega arith) (cases_lt h.0 j))
      at

  -- there is one step to each number
  no_later_step : (i k j : ℕ) → IsWalkStep P i j → IsWalkStep P k j → i < k → ⊥
  no_later_step i k j first second later =
      let past = past_gap i k j (start_low i first.start) first.gap second.start later in
      let order = second.order in
      omega arith

  one_step : (i k j : ℕ) → IsWalkStep P i j → IsWalkStep P k j → i ≡ k
  one_step i k j first second = not_apart i k (no_later_step i k j first second) (no_later_step k i j second first)

  -- and one end
  no_later_end : (i k : ℕ) → IsWalkEnd P i → IsWalkEnd P k → i < k → ⊥
  no_later_end i k first second later =
      let past = past_gap i k 1000001 (start_low i first.start) first.gap second.start later in
      let most = start_high k second.start in
      omega arith

  one_end : (i k : ℕ) → IsWalkEnd P i → IsWalkEnd P k → i ≡ k
  one_end i k first second = not_apart i k (no_later_end i k first second) (no_later_end k i second first)

  -- ---- walks along lists

  -- the list has exactly the numbers from a start on, and rises
  pub record AreAhead (i : ℕ) (ys : List ℕ) : Type 0 where
    pub start : IsWalkStart P i
    pub sound : (y : ℕ) → Contains ys y → P y × (i ≤ y)
    pub whole : (y : ℕ) → P y → i ≤ y → Contains ys y
    pub rise : AllPairs (λ a b. a < b) ys

  pub all_ahead : (ys : List ℕ) → ((y : ℕ) → Contains ys y → P y) → ((y : ℕ) → P y → Contains ys y)
      → AllPairs (λ a b. a < b) ys → AreAhead 1 ys
  all_ahead ys sound whole rise = record {
    start = inl refl;
    sound = λ y c. let p = sound y c in (p, low y p);
    whole = λ y p _. whole y p;
    rise = rise;
  }

  ahead_step : (i y : ℕ) (ys : List ℕ) → AreAhead i (y ∷ ys) → IsWalkStep P i y
  ahead_step i y ys h = record {
    start = h.start;
    order = (h.sound y (Contains-head y ys y refl)).1;
    gap = λ z p late early.
        ⊎_elim (λ (e : y ≡ z). omega arith)
        (λ c. let less = later_more (λ (n : ℕ). n) y ys h.rise z c in omega arith)
        (Contains-cons_cases y ys z (h.whole z p late));
    stop = (h.sound y (Contains-head y ys y refl)).0;
  }

  ahead_end : (i : ℕ) → AreAhead i [] → IsWalkEnd P i
  ahead_end i h = record { start = h.start; gap = λ z p late early. Contains-nil z (h.whole z p late) }

  ahead_tail : (i y : ℕ) (ys : List ℕ) → AreAhead i (y ∷ ys) → AreAhead (y + 1) ys
  ahead_tail i y ys h =
      let at = h.sound y (Contains-head y ys y refl) in
      record {
        start = inr (y, at.0, refl);
        sound = λ z c.
            let less = later_more (λ (n : ℕ). n) y ys h.rise z c in
            ((h.sound z (Contains-tail y ys z c)).0, omega arith);
        whole = λ z p late.
            let order = at.1 in
            ⊎_elim (λ (e : y ≡ z). absurd (omega arith)) (λ c. c)
            (Contains-cons_cases y ys z (h.whole z p (omega arith)));
        rise = pairs_tail (λ a b. a < b) y ys h.rise;
      }

  -- ---- what stands along such a list

  module _ {X : Type 0} (step : ℕ → ℕ → List X) (end : ℕ → List X) where
    -- an item of one of the steps, or of the end
    pub record OnStep (x : X) : Type 0 where
      pub from : ℕ
      pub stop : ℕ
      pub is : IsWalkStep P from stop
      pub item : Contains (step from stop) x

    pub record AtEnd (x : X) : Type 0 where
      pub from : ℕ
      pub is : IsWalkEnd P from
      pub item : Contains (end from) x

    pub along_from : (i : ℕ) (ys : List ℕ) → AreAhead i ys → (x : X) → Contains (walk_along step end i ys) x
        → OnStep x ⊎ AtEnd x
    along_from i [] h x c = inr (record { from = i; is = ahead_end i h; item = c })
    along_from i (y ∷ ys) h x c =
        ⊎_elim (λ here. inl (record { from = i; stop = y; is = ahead_step i y ys h; item = here }))
        (λ later. along_from (y + 1) ys (ahead_tail i y ys h) x later)
        (Contains-append_cases (step i y) (walk_along step end (y + 1) ys) x c)

    pub step_there : (k : ℕ) (ys : List ℕ) → AreAhead k ys → (i j : ℕ) → IsWalkStep P i j → k ≤ j → (x : X)
        → Contains (step i j) x → Contains (walk_along step end k ys) x
    step_there k [] h i j is late x c = absurd (Contains-nil j (h.whole j is.stop late))
    step_there k (y ∷ ys) h i j is late x c =
        ⊎_elim
        (λ (e : y ≡ j). Contains-append_left (step k y) (walk_along step end (y + 1) ys) x
        (subst (λ n. Contains (step k n) x) (sym e)
        (subst (λ n. Contains (step n j) x)
        (one_step i k j is (subst (λ n. IsWalkStep P k n) e (ahead_step k y ys h))) c)))
        (λ there. let less = later_more (λ (n : ℕ). n) y ys h.rise j there in
        Contains-append_right (step k y) (walk_along step end (y + 1) ys) x
        (step_there (y + 1) ys (ahead_tail k y ys h) i j is (omega arith) x c))
        (Contains-cons_cases y ys j (h.whole j is.stop late))

    pub end_there : (k : ℕ) (ys : List ℕ) → AreAhead k ys → (i : ℕ) → IsWalkEnd P i → (x : X)
        → Contains (end i) x → Contains (walk_along step end k ys) x
    end_there k [] h i is x c = subst (λ n. Contains (end n) x) (one_end i k is (ahead_end k h)) c
    end_there k (y ∷ ys) h i is x c =
        Contains-append_right (step k y) (walk_along step end (y + 1) ys) x
        (end_there (y + 1) ys (ahead_tail k y ys h) i is x c)

  -- there is a step to each number
  pub step_to : (k : ℕ) (ys : List ℕ) → AreAhead k ys → (j : ℕ) → P j → k ≤ j → (i : ℕ) × IsWalkStep P i j
  step_to k [] h j p late = absurd (Contains-nil j (h.whole j p late))
  step_to k (y ∷ ys) h j p late =
      ⊎_elim (λ (e : y ≡ j). (k, subst (λ n. IsWalkStep P k n) e (ahead_step k y ys h)))
      (λ there. let less = later_more (λ (n : ℕ). n) y ys h.rise j there in
      step_to (y + 1) ys (ahead_tail k y ys h) j p (omega arith))
      (Contains-cons_cases y ys j (h.whole j p late))

  -- what stands at the beginning, and is handed on at each step unless the goal is reached, reaches the goal where it
  -- does so at the end of the walk
  pub walk_on : (On : ℕ → Type 0) (Goal : Type 0) → ((i j : ℕ) → IsWalkStep P i j → On i → On (j + 1) ⊎ Goal)
      → ((i : ℕ) → IsWalkEnd P i → On i → Goal) → (k : ℕ) (ys : List ℕ) → AreAhead k ys → On k → Goal
  walk_on On Goal step end k [] h here = end k (ahead_end k h) here
  walk_on On Goal step end k (y ∷ ys) h here =
      ⊎_elim (λ next. walk_on On Goal step end (y + 1) ys (ahead_tail k y ys h) next) (λ goal. goal)
      (step k y (ahead_step k y ys h) here)
