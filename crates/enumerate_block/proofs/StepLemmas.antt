-- The steps that refute the claims of a list of sets with widest ranges.
use Rattle.std.proofs.Common.{◌≡◌, ⊎_elim, ℕ, zero, suc, ◌+◌, ◌<◌, ◌≤◌, true, false, not, List, [], ◌∷◌, ◌++◌, length, take, map, filter, refl, ap, sym, subst, ◌∙◌, arith}
use Rattle.std.specs.Prelude.{Contains, slice_index_or, Option, Some, None}
use Rattle.std.proofs.lemmas.Bool.{and_from, and_parts, cases_Bool, cases_eq, cases_lt, false_from_ne_true, not_from_false}
use Rattle.std.proofs.lemmas.List.{append-nil, get_or_append_left, get_or_default, get_or_push, get_or-take, length-append, length-take-le, map-append, take_all, take_more}
use Rattle.lists.proofs.Filters.{Contains-filter}
use Rattle.lists.proofs.ListTests.{any_from, any_gives}
use Rattle.lists.proofs.Membership.{Contains-nil, Contains-head, Contains-tail, Contains-cons_cases}
use Rattle.semantics.specs.declared.mode.Mode.{Mode}
use Rattle.semantics.specs.Frameworks.{Framework}
use Rattle.certificate_claims.specs.Acceptance.{no_claim}
use Rattle.certificate_claims.specs.Claims.{first_ranged, has_ranged, range_listed}
use Rattle.certificate_claims.specs.Refutations.{Claim}
use Rattle.certificate_claims.specs.Rights.{SetsRise}
use Rattle.certificate_claims.specs.SetLiterals.{is_range_within, range_of, same_range}
use Rattle.certificate_claims.proofs.RangeLists.{same_ranges}
use Rattle.certificate_claims.proofs.SetTests.{chosen, firsts_more, firsts_within, passed, same_trans}
use Rattle.oracle_face.specs.Goals.{Refutes}
use Rattle.oracle_face.specs.Logs.{OracleLog}
use Rattle.enumerate_block.specs.Ordered.{Precedes}
use Rattle.enumerate_block.proofs.OrderedLemmas.{not_both_ways, not_itself}
use Rattle.enumerate_block.specs.Marks.{IsPaired, marked_steps}
use Rattle.enumerate_block.specs.Ranges.{AreRefuted, IsMark}
use Rattle.enumerate_block.proofs.MarkLemmas.{marked_append}

-- ---- claims and steps, one after the other

pub refuted_none : (f : Framework) (log : OracleLog) → AreRefuted f log [] []
refuted_none f log = record { number = refl; each = λ k lt. absurd (omega arith) }

cons_at : (f : Framework) (log : OracleLog) (claim : Claim) (step : ℕ) (list : List Claim) (steps : List ℕ)
    → Refutes f log claim step → AreRefuted f log list steps → (k : ℕ) → k < length (step ∷ steps)
    → Refutes f log (slice_index_or (claim ∷ list) k no_claim) (slice_index_or (step ∷ steps) k 0)
cons_at f log claim step list steps h more zero lt = h
cons_at f log claim step list steps h more (suc k) lt = more.each k (omega arith)

pub refuted_first : (f : Framework) (log : OracleLog) (claim : Claim) (step : ℕ) (list : List Claim) (steps : List ℕ)
    → Refutes f log claim step → AreRefuted f log list steps → AreRefuted f log (claim ∷ list) (step ∷ steps)
refuted_first f log claim step list steps h more = record {
  number = ap suc more.number;
  each = cons_at f log claim step list steps h more;
}

-- each of the claims has a step that refutes it
pub refuted_member : (f : Framework) (log : OracleLog) (list : List Claim) (steps : List ℕ) (claim : Claim)
    → AreRefuted f log list steps → Contains list claim → (n : ℕ) × Refutes f log claim n
refuted_member f log list steps claim h c =
    let lt = c.1 in
    let fits : c.0 < length steps = omega (arith, h.number) in (
      slice_index_or steps c.0 0,
      subst (λ (x : Claim). Refutes f log x (slice_index_or steps c.0 0))
          (get_or_default list c.0 no_claim claim lt ∙ c.2) (h.each c.0 fits),
    )

pub refuted_last : (f : Framework) (log : OracleLog) (claim : Claim) (step : ℕ) (list : List Claim) (steps : List ℕ)
    → Refutes f log claim step → AreRefuted f log list steps
    → AreRefuted f log (list ++ claim ∷ []) (steps ++ step ∷ [])
refuted_last f log claim step list steps h before =
    let same = before.number in
    let long = length-append steps (step ∷ []) in
    let longer = length-append list (claim ∷ []) in
    record {
      number = omega arith;
      each = λ k lt. ⊎_elim
          (λ early.
          let there : k < length list = omega arith in
          subst (λ (n : ℕ). Refutes f log (slice_index_or (list ++ claim ∷ []) k no_claim) n)
          (sym (get_or_append_left steps (step ∷ []) 0 k early))
          (subst (λ (c : Claim). Refutes f log c (slice_index_or steps k 0))
          (sym (get_or_append_left list (claim ∷ []) no_claim k there)) (before.each k early)))
          (λ late.
          let last : length steps ≡ k = omega arith in
          subst (λ (n : ℕ). Refutes f log (slice_index_or (list ++ claim ∷ []) k no_claim) n)
          (sym (get_or_push steps step 0 k last))
          (subst (λ (c : Claim). Refutes f log c step)
          (sym (get_or_push list claim no_claim k (sym same ∙ last))) h))
          (cases_lt k (length steps));
    }

-- ---- the first sets with their ranges

same_back : (f : Framework) (s t : List ℕ) → same_range f s t ≡ true → same_range f t s ≡ true
same_back f s t h =
    let both = and_parts (is_range_within f s t) (is_range_within f t s) h in
    and_from (is_range_within f t s) (is_range_within f s t) both.1 both.0

-- each set has the range of one of the first
pub first_of : (f : Framework) (sets : List (List ℕ)) (s : List ℕ) → Contains sets s
    → (e : List ℕ) × Contains (first_ranged f sets) e × (same_range f e s ≡ true)
first_of f [] s c = absurd (Contains-nil s c)
first_of f (x ∷ more) s c =
    let other = λ (t : List ℕ). not (same_range f x t) in
    let rest = filter other (first_ranged f more) in
    ⊎_elim
    (λ (e : x ≡ s). (x, Contains-head x rest x refl, same_ranges f x s (ap (range_of f) e)))
    (λ later.
    let m = first_of f more s later in
    ⊎_elim
    (λ same. (x, Contains-head x rest x refl, same_trans f x m.0 s same m.2))
    (λ differ. (
      m.0,
      Contains-tail x rest m.0 ((Contains-filter other (first_ranged f more) m.0).1
          (m.1, not_from_false (same_range f x m.0) differ)),
      m.2,
    ))
    (cases_Bool (same_range f x m.0)))
    (Contains-cons_cases x more s c)

-- of two sets in order the one that comes before stands before
stands_before : (sets : List (List ℕ)) (i j : ℕ) → SetsRise sets → i < length sets → j < length sets
    → Precedes (slice_index_or sets i []) (slice_index_or sets j []) → i < j
stands_before sets i j rise low high less =
    ⊎_elim (λ k. k)
    (λ late. absurd (⊎_elim
    (λ (e : i ≡ j). not_itself (slice_index_or sets j [])
    (subst (λ k. Precedes (slice_index_or sets k []) (slice_index_or sets j [])) e less))
    (λ differ. not_both_ways (slice_index_or sets i []) (slice_index_or sets j []) less
    (rise j i (omega (arith, differ)) low))
    (cases_eq i j)))
    (cases_lt i j)

in_front : (sets : List (List ℕ)) (n j : ℕ) → n ≤ length sets → j < n
    → Contains (take n sets) (slice_index_or sets j [])
in_front sets n j within lt =
    let long = length-take-le n sets within in (
      j,
      omega arith,
      get_or_default (take n sets) j (slice_index_or sets j []) [] (omega arith) ∙ get_or-take n sets j [] lt,
    )

front_index : (sets : List (List ℕ)) (n : ℕ) (s : List ℕ) → n ≤ length sets → Contains (take n sets) s
    → (j : ℕ) × j < n × (slice_index_or sets j [] ≡ s)
front_index sets n s within c =
    let long = length-take-le n sets within in
    let lt = c.1 in
    let low : c.0 < n = omega arith in
    (c.0, low, sym (get_or-take n sets c.0 [] low) ∙ (get_or_default (take n sets) c.0 [] s lt ∙ c.2))

next_front : (f : Framework) (sets : List (List ℕ)) (n : ℕ) (s : List ℕ) → n < length sets
    → slice_index_or sets n [] ≡ s
    → take (n + 1) sets ≡ take n sets ++ s ∷ []
next_front f sets n s lt is = take_more sets n [] lt ∙ ap (λ (x : List ℕ). take n sets ++ x ∷ []) is

-- the claims that a set is the last to be listed with its range, for the first sets of a front
abbrev front_claims : Mode → Framework → List (List ℕ) → ℕ → List Claim
front_claims mode f sets n = map (range_listed f mode sets) (first_ranged f (take n sets))

module _ (mode : Mode) where
  mark_next : (f : Framework) (log : OracleLog) (sets : List (List ℕ)) (marks : List (Option ℕ)) (n : ℕ) (s : List ℕ)
      → SetsRise sets → n < length sets → slice_index_or sets n [] ≡ s → (mark : Option ℕ)
      → IsMark f log mode sets s mark
      → AreRefuted f log (front_claims mode f sets n) (marked_steps (take n marks))
      → AreRefuted f log (front_claims mode f sets (n + 1)) (marked_steps (take n marks) ++ marked_steps (mark ∷ []))
  mark_next f log sets marks n s rise lt is None none before =
      let t = none.0 in
      let at = none.1 in
      let s_there : slice_index_or sets at.0 [] ≡ t = get_or_default sets at.0 [] t at.1 ∙ at.2 in
      let low : at.0 < n = stands_before sets at.0 n rise at.1 lt
      (subst (λ (x : List ℕ). Precedes x (slice_index_or sets n [])) (sym s_there)
      (subst (λ (x : List ℕ). Precedes t x) (sym is) none.3)) in
      let front : Contains (take n sets) t = subst (λ (x : List ℕ). Contains (take n sets) x) s_there
      (in_front sets n at.0 (omega arith) low) in
      let firsts = first_ranged f (take n sets) in
      let e = first_of f (take n sets) t front in
      let had : has_ranged f firsts s ≡ true =
      any_from (λ x. same_range f x s) firsts e.0 e.1 (same_trans f e.0 t s e.2 none.2) in
      let same : first_ranged f (take (n + 1) sets) ≡ firsts =
      ap (first_ranged f) (next_front f sets n s lt is)
      ∙ (firsts_more f (take n sets) s ∙ chosen (has_ranged f firsts s) firsts (firsts ++ s ∷ []) had) in
      subst (λ (xs : List ℕ). AreRefuted f log (front_claims mode f sets (n + 1)) xs)
      (sym (append-nil (marked_steps (take n marks))))
      (subst (λ (xs : List (List ℕ)). AreRefuted f log (map (range_listed f mode sets) xs) (marked_steps (take n
      marks)))
      (sym same) before)
  mark_next f log sets marks n s rise lt is (Some step) some_step before =
      let firsts = first_ranged f (take n sets) in
      let new : has_ranged f firsts s ≡ false = false_from_ne_true (has_ranged f firsts s) (λ h.
      let m = any_gives (λ x. same_range f x s) firsts h in
      let j = front_index sets n m.0 (omega arith) (firsts_within f (take n sets) m.0 m.1) in
      let low = j.1 in
      let there : Contains sets m.0 =
      (j.0, omega arith, get_or_default sets j.0 m.0 [] (omega arith) ∙ j.2) in
      some_step.1 m.0 there m.2
      (subst (λ (x : List ℕ). Precedes x s) j.2
      (subst (λ (x : List ℕ). Precedes (slice_index_or sets j.0 []) x) is (rise j.0 n low lt)))) in
      let more : first_ranged f (take (n + 1) sets) ≡ firsts ++ s ∷ [] =
      ap (first_ranged f) (next_front f sets n s lt is)
      ∙ (firsts_more f (take n sets) s ∙ passed (has_ranged f firsts s) firsts (firsts ++ s ∷ []) new) in
      let claims_are : front_claims mode f sets (n + 1) ≡ front_claims mode f sets n ++ range_listed f mode sets s ∷ []
      =
      ap (map (range_listed f mode sets)) more ∙ map-append (range_listed f mode sets) firsts (s ∷ []) in
      subst (λ (xs : List Claim). AreRefuted f log xs (marked_steps (take n marks) ++ step ∷ [])) (sym claims_are)
      (refuted_last f log (range_listed f mode sets s) step (front_claims mode f sets n) (marked_steps (take n marks))
      some_step.0
      before)

  fronts_refuted : (f : Framework) (log : OracleLog) (sets : List (List ℕ)) (marks : List (Option ℕ)) → SetsRise sets
      → length marks ≡ length sets
      → ((s : List ℕ) (mark : Option ℕ) → IsPaired sets marks s mark → IsMark f log mode sets s mark)
      → (n : ℕ) → n ≤ length sets → AreRefuted f log (front_claims mode f sets n) (marked_steps (take n marks))
  fronts_refuted f log sets marks rise same are zero within = refuted_none f log
  fronts_refuted f log sets marks rise same are (suc n) within =
      let before = fronts_refuted f log sets marks rise same are n (omega arith) in
      let s = slice_index_or sets n [] in
      let mark = slice_index_or marks n None in
      let lt : n < length sets = omega arith in
      let up : n + 1 ≡ suc n = omega arith in
      let steps : marked_steps (take (n + 1) marks) ≡ marked_steps (take n marks) ++ marked_steps (mark ∷ []) =
      ap marked_steps (take_more marks n None (omega arith)) ∙ marked_append (take n marks) mark in
      subst (λ (k : ℕ). AreRefuted f log (front_claims mode f sets k) (marked_steps (take k marks))) up
      (subst (λ (xs : List ℕ). AreRefuted f log (front_claims mode f sets (n + 1)) xs) (sym steps)
      (mark_next f log sets marks n s rise lt refl mark (are s mark (n, lt, refl, refl)) before))

  pub firsts_refuted : (f : Framework) (log : OracleLog) (sets : List (List ℕ)) (marks : List (Option ℕ))
      → SetsRise sets
      → length marks ≡ length sets
      → ((s : List ℕ) (mark : Option ℕ) → IsPaired sets marks s mark → IsMark f log mode sets s mark)
      → AreRefuted f log (map (range_listed f mode sets) (first_ranged f sets)) (marked_steps marks)
  firsts_refuted f log sets marks rise same are =
      let h = fronts_refuted f log sets marks rise same are (length sets) (omega arith) in
      subst (λ (xs : List (List ℕ)). AreRefuted f log (map (range_listed f mode sets) (first_ranged f xs)) (marked_steps
      marks))
      (take_all (length sets) sets (omega arith))
      (subst (λ (xs : List (Option ℕ)). AreRefuted f log (front_claims mode f sets (length sets)) (marked_steps xs))
      (take_all (length sets) marks (omega arith)) h)
