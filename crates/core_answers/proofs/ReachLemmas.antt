-- Which steps reach no side clause but those of some numbers.
use Rattle.std.proofs.Common.{◌≡◌, ◌∙◌, ℕ, ◌+◌, ◌-◌, ◌<◌, Bool, true, false, List, [], ◌∷◌, ◌++◌, length, get_or, set, cond, arith, ap, sym, subst, ⊎_elim}
use Rattle.std.specs.Prelude.{◌↔◌, Contains, IsTrue, count_by}
use Rattle.std.proofs.lemmas.Bool.{cases_eq, cases_lt, false≢true}
use Rattle.std.proofs.lemmas.List.{get_or_append_left, get_or_past, get_or_push, get_or-set_other, get_or-set_same, length-set}
use Rattle.std.proofs.lemmas.List.Sums.{sum_by-set}
use Rattle.lists.proofs.Membership.{Contains-nil}
use Rattle.oracle_face.specs.Logs.{LogStep, Reaches, by_hint, by_hints, by_side, hints_of, itself, no_step, step_at}
use Rattle.core_answers.specs.Parts.{HandOn, HandsOn, HasMarks, IsFault, IsMarked, IsOwn, ReachOwn, ReachesOwn}

-- ---- marks

-- one mark more
pub marked_more : (P : LogStep → Type 0) (steps : List LogStep) (marks : List Bool) (m : Bool) (i : ℕ)
    → length marks ≡ i
    → ((k : ℕ) → k < i → IsTrue (get_or marks k true) ↔ P (get_or steps k no_step))
    → IsTrue m ↔ P (get_or steps i no_step)
    → (k : ℕ) → k < i + 1 → IsTrue (get_or (marks ++ m ∷ []) k true) ↔ P (get_or steps k no_step)
marked_more P steps marks m i long all here k lt =
    ⊎_elim
    (λ (e : k ≡ i). subst (λ j. IsTrue (get_or (marks ++ m ∷ []) j true) ↔ P (get_or steps j no_step)) (sym e)
    (subst (λ b. IsTrue b ↔ P (get_or steps i no_step)) (sym (get_or_push marks m true i long)) here))
    (λ ne. subst (λ b. IsTrue b ↔ P (get_or steps k no_step))
    (sym (get_or_append_left marks (m ∷ []) true k (omega (arith, ne, long)))) (all k (omega (arith, ne))))
    (cases_eq k i)

-- a mark less
pub mark_fewer : (marks : List Bool) (k : ℕ) → k < length marks → IsTrue (get_or marks k true)
    → count_by (λ b. b) (set marks k false) < count_by (λ b. b) marks
mark_fewer marks k lt is =
    let change : count_by (λ b. b) (set marks k false) + cond (get_or marks k true) 1 0
    ≡ count_by (λ b. b) marks + 0 = sum_by-set (λ (b : Bool). cond b 1 0) marks k false true lt in
    let value : Bool → ℕ = λ b. cond b 1 0 in
    let one : value (get_or marks k true) ≡ value true = ap value is in
    omega (arith, change, one)

-- ---- what a step reaches

-- numbers of one step reach the same
same_place : (steps : List LogStep) (own : List ℕ) (m n : ℕ) → m - 1 ≡ n - 1 → ReachesOwn steps own m
    → ReachesOwn steps own n
same_place steps own m n e all to s (itself _) is =
    all m s (itself m) (ap (λ i. (get_or steps i no_step).source) e ∙ is)
same_place steps own m n e all to s (by_hint _ hint _ c rest) is =
    let there : Contains (hints_of (step_at steps m).source) hint =
    subst (λ i. Contains (hints_of (get_or steps i no_step).source) hint) (sym e) c in
    all to s (by_hint m hint to there rest) is

-- the marks so far: of own steps, and of each that reaches none but own
pub record IsSettling (own : List ℕ) (steps : List LogStep) (marks : List Bool) : Type 0 where
  pub long : length marks ≡ length steps
  pub low : (k : ℕ) → k < length steps → IsTrue (get_or marks k true) → IsOwn own (get_or steps k no_step)
  pub high : (k : ℕ) → k < length steps → ReachesOwn steps own (k + 1) → IsTrue (get_or marks k true)

step_here : (steps : List LogStep) (k : ℕ) → step_at steps (k + 1) ≡ get_or steps k no_step
step_here steps k = ap (λ i. get_or steps i no_step) (omega arith)

pub settling_begins : (own : List ℕ) (steps : List LogStep) (marks : List Bool) → HasMarks (IsOwn own) steps marks
    → IsSettling own steps marks
settling_begins own steps marks h = record {
  long = h.long;
  low = λ k lt is. (h.each k lt).0 is;
  high = λ k lt all. (h.each k lt).1 (record {
    is = λ n is. all (k + 1) n (itself (k + 1)) (ap (λ (s : LogStep). s.source) (step_here steps k) ∙ is);
  });
}

-- what a step that reaches none but own names is marked
hands_down : (own : List ℕ) (steps : List LogStep) (marks : List Bool) (k : ℕ) → IsSettling own steps marks
    → ReachesOwn steps own (k + 1) → HandsOn marks (get_or steps k no_step)
hands_down own steps marks k h all hint c =
    ⊎_elim
    (λ (lt : hint - 1 < length steps). h.high (hint - 1) lt
    (same_place steps own hint (hint - 1 + 1) (omega arith)
    (λ to n rest is. all to n (by_hint (k + 1) hint to
    (subst (λ (s : LogStep). Contains (hints_of s.source) hint) (sym (step_here steps k)) c) rest) is)))
    (λ past. get_or_past marks (hint - 1) true (omega (arith, h.long, past)))
    (cases_lt (hint - 1) (length steps))

-- a mark that is set behind a mark's fall was set before
pub still_set : (marks : List Bool) (k j : ℕ) → k < length marks → get_or (set marks k false) j true ≡ true
    → get_or marks j true ≡ true
still_set marks k j lt is = ⊎_elim
    (λ (e : j ≡ k). absurd (false≢true (sym (get_or-set_same marks k false true lt)
    ∙ subst (λ i. get_or (set marks k false) i true ≡ true) e is)))
    (λ ne. sym (get_or-set_other marks k j false true ne) ∙ is)
    (cases_eq j k)

pub settling_goes_on : (own : List ℕ) (steps : List LogStep) (marks : List Bool) (k : ℕ) → IsSettling own steps marks
    → IsFault steps marks k → IsSettling own steps (set marks k false)
settling_goes_on own steps marks k h fault =
    let lt : k < length marks = omega (arith, h.long, fault.within) in record {
      long = length-set marks k false ∙ h.long;
      low = λ j less is. h.low j less (still_set marks k j lt is);
      high = λ j less all. ⊎_elim
          (λ (e : j ≡ k). absurd (fault.fault (hands_down own steps marks k h
          (subst (λ i. ReachesOwn steps own (i + 1)) e all))))
          (λ ne. get_or-set_other marks k j false true ne ∙ h.high j less all)
          (cases_eq j k);
    }

no_side_step : (n : ℕ) → by_hints [] ≡ by_side n → ⊥
no_side_step n e = cc

-- where nothing moves any more, what a marked step reaches is own
reached_own : (own : List ℕ) (steps : List LogStep) (marks : List Bool) → IsSettling own steps marks
    → HandOn steps marks → (from to n : ℕ) → IsMarked marks from → Reaches steps from to
    → (step_at steps to).source ≡ by_side n → Contains own n
reached_own own steps marks h rest from to n marked (itself _) is =
    ⊎_elim
    (λ (lt : from - 1 < length steps). (h.low (from - 1) lt marked).is n is)
    (λ past. absurd (no_side_step n (ap (λ (s : LogStep). s.source) (sym (get_or_past steps (from - 1) no_step past))
    ∙ is)))
    (cases_lt (from - 1) (length steps))
reached_own own steps marks h rest from to n marked (by_hint _ hint _ c more) is =
    ⊎_elim
    (λ (lt : from - 1 < length steps).
    reached_own own steps marks h rest hint to n (rest (from - 1) lt marked hint c) more is)
    (λ past. absurd (Contains-nil hint
    (subst (λ (s : LogStep). Contains (hints_of s.source) hint) (get_or_past steps (from - 1) no_step past) c)))
    (cases_lt (from - 1) (length steps))

pub settled : (own : List ℕ) (steps : List LogStep) (marks : List Bool) → IsSettling own steps marks
    → HandOn steps marks → ReachOwn own steps marks
settled own steps marks h rest = record {
  long = h.long;
  each = λ k lt. (
    λ is to n reaches. reached_own own steps marks h rest (k + 1) to n
        (subst (λ i. IsTrue (get_or marks i true)) (omega arith) is) reaches,
    λ all. h.high k lt all,
  );
}
