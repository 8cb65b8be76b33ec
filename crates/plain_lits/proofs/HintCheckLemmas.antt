-- The check of a clause with its hints: what it takes follows, and it depends on members alone.
use Rattle.std.proofs.Common.{◌≡◌, ◌≢◌, ℕ, zero, suc, ◌<◌, ◌≤◌, ◌+◌, List, [], ◌∷◌, ◌++◌, length, length-take}
use Rattle.std.proofs.Common.{get_or, arith, ap, sym, ◌∙◌, inl, inr, ⊎_elim, Bool, true, false, not}
use Rattle.std.proofs.Common.{take, map, Ok, Result}
use Rattle.std.specs.Prelude.{Contains}
use Rattle.std.proofs.lemmas.List.{get_or_default, get_or-take}
use Rattle.std.specs.List.{list_any}
use Rattle.std.proofs.lemmas.Bool.{cases_Bool, false≢true}
use Rattle.std.proofs.lemmas.List.Elements.{Contains-append_left, Contains-push_cases}
use Rattle.lists.proofs.Membership.{Contains-pushed}
use Rattle.lists.proofs.ListTests.{any_gives, any_from}
use Rattle.plain_lits.specs.HintCheck.{clause_at, IsNamed, IsUnit, IsFalseHint, IsUnitHint, IsOtherHint}
use Rattle.plain_lits.specs.HintCheck.{Propagates, Checks, IsValuation, IsTrueClause, Follows}
use Rattle.plain_lits.specs.CheckLaws.{IsSound}
use Rattle.lists.proofs.Images.{image_from}
pub use Rattle.lists.proofs.Images.{image_there as Contains-mapped}
pub use Rattle.lists.proofs.Images.{image_from as Contains-from_mapped}

-- two assignments with the same members
pub record IsSameSet {L : Type 0} (xs ys : List L) : Type 0 where
  pub there : (l : L) → Contains xs l → Contains ys l
  pub back : (l : L) → Contains ys l → Contains xs l

turned : {L : Type 0} (xs ys : List L) → IsSameSet xs ys → IsSameSet ys xs
turned xs ys h = record { there = h.back; back = h.there }

same_push : {L : Type 0} (xs ys : List L) (u : L) → IsSameSet xs ys → IsSameSet (xs ++ u ∷ []) (ys ++ u ∷ [])
same_push xs ys u h = record {
  there = λ l c. ⊎_elim (λ old. Contains-append_left ys (u ∷ []) l (h.there l old)) (λ e. Contains-pushed ys u l e)
      (Contains-push_cases xs u l c);
  back = λ l c. ⊎_elim (λ old. Contains-append_left xs (u ∷ []) l (h.back l old)) (λ e. Contains-pushed xs u l e)
      (Contains-push_cases ys u l c);
}

false_along : {L : Type 0} (neg : L → L) (steps : List (List L)) (xs ys : List L) (hint : ℕ) → IsSameSet xs ys
    → IsFalseHint neg steps xs hint → IsFalseHint neg steps ys hint
false_along neg steps xs ys hint h f = record {
  named = f.named;
  all_false = record { each = λ l c. h.there (neg l) (f.all_false.each l c) };
}

unit_along : {L : Type 0} (neg : L → L) (steps : List (List L)) (xs ys : List L) (hint : ℕ) (u : L)
    → IsSameSet xs ys → IsUnitHint neg steps xs hint u → IsUnitHint neg steps ys hint u
unit_along neg steps xs ys hint u h f = record {
  named = f.named;
  unit = record {
    there = f.unit.there;
    not_true = λ c. f.unit.not_true (h.back u c);
    not_false = λ c. f.unit.not_false (h.back (neg u) c);
    others = λ l c ne. h.there (neg l) (f.unit.others l c ne);
  };
}

other_along : {L : Type 0} (neg : L → L) (steps : List (List L)) (xs ys : List L) (hint : ℕ) → IsSameSet xs ys
    → IsOtherHint neg steps xs hint → IsOtherHint neg steps ys hint
other_along neg steps xs ys hint h f = record {
  not_false = λ g. f.not_false (false_along neg steps ys xs hint (turned xs ys h) g);
  not_unit = λ u g. f.not_unit u (unit_along neg steps ys xs hint u (turned xs ys h) g);
}

-- only the members of an assignment count
pub propagates_same_set : {L : Type 0} (neg : L → L) (steps : List (List L)) (xs ys : List L) (place : ℕ)
    (hints : List ℕ) (outcome : Result ℕ ℕ)
    → IsSameSet xs ys → Propagates neg steps xs place hints outcome → Propagates neg steps ys place hints outcome
propagates_same_set neg steps xs ys place [] outcome h w = w
propagates_same_set neg steps xs ys place (hint ∷ hints) outcome h w =
    ⊎_elim (λ f. inl (false_along neg steps xs ys hint h f.0, f.1))
    (λ r. ⊎_elim
    (λ f. inr (inl (
      f.0,
      unit_along neg steps xs ys hint f.0 h f.1,
      propagates_same_set neg steps (xs ++ f.0 ∷ [])
          (ys ++ f.0 ∷ []) (place + 1) hints outcome (same_push xs ys f.0 h) f.2,
    )))
    (λ f. inr (inr (other_along neg steps xs ys hint h f.0, f.1))) r) w

-- under a reading that makes the literals of an assignment true, no clause of the hints that are taken can be false
all_true_stays : {L : Type 0} (reading : L → Bool) (truths : List L) (u : L)
    → ((l : L) → Contains truths l → reading l ≡ true) → reading u ≡ true → (l : L)
    → Contains (truths ++ u ∷ []) l → reading l ≡ true
all_true_stays reading truths u h e l c = ⊎_elim (λ old. h l old) (λ same. ap reading (sym same) ∙ e)
    (Contains-push_cases truths u l c)

clash : {L : Type 0} (neg : L → L) (reading : L → Bool) (l : L) → IsValuation neg reading → reading l ≡ true
    → reading (neg l) ≡ true → ⊥
clash neg reading l h e n = false≢true (sym (ap not e) ∙ (sym (h l) ∙ n))

unit_true : {L : Type 0} (neg : L → L) (reading : L → Bool) (truths clause : List L) (u : L)
    → IsValuation neg reading → ((l : L) → Contains truths l → reading l ≡ true) → IsUnit neg truths clause u
    → IsTrueClause reading clause → reading u ≡ true
unit_true neg reading truths clause u h all f t =
    ⊎_elim (λ yes_. yes_)
    (λ no_.
    let apart : t.0 ≢ u = λ e. false≢true (sym no_ ∙ (ap reading (sym e) ∙ t.2)) in
    absurd (clash neg reading t.0 h t.2 (all (neg t.0) (f.others t.0 t.1 apart))))
    (cases_Bool (reading u))

-- a clause is taken at one of the hints
pub taken_within : {L : Type 0} (neg : L → L) (steps : List (List L)) (truths : List L) (place : ℕ) (hints : List ℕ)
    (n : ℕ)
    → Propagates neg steps truths place hints (Ok n) → (place ≤ n) × (n < place + length hints)
taken_within neg steps truths place [] n w = cc
taken_within neg steps truths place (hint ∷ hints) n w =
    ⊎_elim (λ f. let e : n ≡ place = (let o = f.1 in cc) in (omega arith, omega arith))
    (λ r. ⊎_elim
    (λ f. let h = taken_within neg steps (truths ++ f.0 ∷ []) (place + 1) hints n f.2 in let low = h.0 in let high =
    h.1 in (omega arith, omega arith))
    (λ f. let o = f.1 in cc) r) w

-- the hints that are looked at suffice
pub taken_alone : {L : Type 0} (neg : L → L) (steps : List (List L)) (truths : List L) (place : ℕ) (hints : List ℕ)
    (n m : ℕ)
    → Propagates neg steps truths place hints (Ok n) → n < place + m
    → Propagates neg steps truths place (take m hints) (Ok n)
taken_alone neg steps truths place [] n m w lt = cc
taken_alone neg steps truths place (hint ∷ hints) n zero w lt =
    let h = taken_within neg steps truths place (hint ∷ hints) n w in let low = h.0 in absurd (omega arith)
taken_alone neg steps truths place (hint ∷ hints) n (suc m) w lt =
    ⊎_elim (λ f. inl f)
    (λ r. ⊎_elim
    (λ f. inr (inl (f.0, f.1, taken_alone neg steps (truths ++ f.0 ∷ []) (place + 1) hints n m f.2 (omega arith))))
    (λ f. let o = f.1 in cc) r) w

-- each hint that is looked at names a step
pub taken_named : {L : Type 0} (neg : L → L) (steps : List (List L)) (truths : List L) (place : ℕ) (hints : List ℕ)
    (n k : ℕ)
    → Propagates neg steps truths place hints (Ok n) → place + k ≤ n → IsNamed steps (get_or hints k 0)
taken_named neg steps truths place [] n k w le = cc
taken_named neg steps truths place (hint ∷ hints) n zero w le =
    ⊎_elim (λ f. f.0.named)
    (λ r. ⊎_elim (λ f. f.1.named) (λ f. let o = f.1 in cc) r) w
taken_named neg steps truths place (hint ∷ hints) n (suc k) w le =
    ⊎_elim (λ f. let e : n ≡ place = (let o = f.1 in cc) in absurd (omega arith))
    (λ r. ⊎_elim
    (λ f. taken_named neg steps (truths ++ f.0 ∷ []) (place + 1) hints n k f.2 (omega arith))
    (λ f. let o = f.1 in cc) r) w

refuted : {L : Type 0} (neg : L → L) (steps : List (List L)) (reading : L → Bool) (truths : List L) (place : ℕ)
    (hints : List ℕ) (n : ℕ)
    → IsValuation neg reading → ((l : L) → Contains truths l → reading l ≡ true)
    → Propagates neg steps truths place hints (Ok n)
    → ((k : ℕ) → place + k ≤ n → IsTrueClause reading (clause_at steps (get_or hints k 0))) → ⊥
refuted neg steps reading truths place [] n h all w true_hints = cc
refuted neg steps reading truths place (hint ∷ hints) n h all w true_hints =
    let low = (taken_within neg steps truths place (hint ∷ hints) n w).0 in
    let here : IsTrueClause reading (clause_at steps hint) = true_hints 0 (omega arith) in
    ⊎_elim (λ f. clash neg reading here.0 h here.2 (all (neg here.0) (f.0.all_false.each here.0 here.1)))
    (λ r. ⊎_elim
    (λ f. refuted neg steps reading (truths ++ f.0 ∷ []) (place + 1) hints n h
    (all_true_stays reading truths f.0 all (unit_true neg reading truths (clause_at steps hint) f.0 h all f.1.unit
    here)) f.2
    (λ k le. true_hints (suc k) (omega arith)))
    (λ f. let o = f.1 in cc) r) w

in_front : (hints : List ℕ) (n k : ℕ) → k < n → k < length hints → Contains (take n hints) (get_or hints k 0)
in_front hints n k lt within = (
  k,
  omega (arith, length-take n hints),
  get_or-take n hints k (get_or hints k 0) lt
      ∙ get_or_default hints k (get_or hints k 0) 0 within,
)

-- what the check takes follows from the hints that it looks at
pub taken_follows : {L : Type 0} (neg : L → L) (steps : List (List L)) (clause : List L) (hints : List ℕ) (n : ℕ)
    → Propagates neg steps (map neg clause) 1 hints (Ok n) → Follows neg steps clause (take n hints)
taken_follows neg steps clause hints n w reading h true_hints =
    let bounds = taken_within neg steps (map neg clause) 1 hints n w in
    let high = bounds.1 in
    ⊎_elim (λ some_. any_gives reading clause some_)
    (λ none_.
    let all = λ (l : _) (c : Contains (map neg clause) l).
    let m = image_from neg clause l c in
    let low : reading m.0 ≡ false = ⊎_elim (λ t. absurd (false≢true (sym none_ ∙ any_from reading clause m.0 m.1 t)))
    (λ f. f) (cases_Bool (reading m.0)) in
    let e : reading l ≡ true = ap reading (sym m.2) ∙ (h m.0 ∙ ap not low) in e in
    absurd (refuted neg steps reading (map neg clause) 1 hints n h all w
    (λ k le. true_hints (get_or hints k 0) (in_front hints n k (omega arith) (omega arith)))))
    (cases_Bool (list_any reading clause))

pub taken_sound : {L : Type 0} (neg : L → L) (steps : List (List L)) (clause : List L) (hints : List ℕ) (n : ℕ)
    → Checks neg steps clause hints (Ok n) → IsSound neg steps clause hints n
taken_sound neg steps clause hints n w =
    ⊎_elim (λ bad. let e = bad.1 in cc)
    (λ good.
    let bounds = taken_within neg steps (map neg clause) 1 hints n good.1 in
    let high = bounds.1 in
    record {
      within = omega arith;
      named = λ hint c.
          let lt = c.1 in
          let at : get_or hints c.0 0 ≡ hint = get_or_default hints c.0 0 hint (omega (arith, length-take n hints))
          ∙ (sym (get_or-take n hints c.0 hint (omega (arith, length-take n hints))) ∙ c.2) in
          rw at at (taken_named neg steps (map neg clause) 1 hints n c.0 good.1 (omega (arith, length-take n hints)));
      alone = inr (good.0, taken_alone neg steps (map neg clause) 1 hints n n good.1 (omega arith));
      follows = taken_follows neg steps clause hints n good.1;
    }) w
