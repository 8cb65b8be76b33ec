-- How far the walk goes down, and the clause that it leaves.
use Rattle.std.proofs.Common.{◌≡◌, ◌≢◌, ℕ, ◌<◌, ◌≤◌, ◌+◌, ◌-◌, Bool, true, false, eqb, List}
use Rattle.std.proofs.Common.{length, get_or, take}
use Rattle.std.proofs.Common.{arith, ap, sym, subst, ◌∙◌, refl, ⊎_elim}
use Rattle.std.specs.Prelude.{◌⊎◌, Contains, Some, slice_get}
use Rattle.std.proofs.Math.ListN.{set, length-set}
use Rattle.std.proofs.lemmas.Bool.{cases_eq, cases_Bool, false≢true, ltb-false, le-ltb}
use Rattle.std.proofs.lemmas.List.{get_or_default}
use Rattle.std.proofs.lemmas.List.Elements.{Contains-get_or}
use Rattle.lists.proofs.Membership.{Contains-nil}
use Rattle.plain_lits.specs.declared.lit.Lit.{Lit}
use Rattle.plain_lits.specs.Literals.{negation}
use Rattle.plain_lits.specs.Trails.{VarsDiffer}
use Rattle.unit_propagate.specs.Search.{Search}
use Rattle.clause_watches.proofs.Fronts.{longer_front, in_front, front_cases}
use Rattle.conflict_learn.specs.declared.workspace.Border.{Border}
use Rattle.conflict_learn.specs.declared.workspace.Border.TheVariants.{Below, Assumed}
use Rattle.conflict_learn.specs.Learning.{StandsAt, IsDecided, last_start}
use Rattle.conflict_learn.specs.Analyses.{Analysis, AreClear, IsAt, IsLastOpen, IsReach}
use Rattle.conflict_learn.specs.Analyses.{AreLeft}
use Rattle.conflict_learn.specs.Analyses.{is_marked, is_kept, is_open}
use Rattle.conflict_learn.proofs.Counting.{count_two, count_one, count_found}
use Rattle.conflict_learn.proofs.Literally.{stands_index}
use Rattle.conflict_learn.proofs.Literally.{stands_front, stands_here}
use Rattle.conflict_learn.proofs.Literally.{stands_got, but_not, but_is}
use Rattle.conflict_learn.proofs.Meeting.{marked_else, marked_here, marked_read}
use Rattle.plain_lits.proofs.CheckingLemmas.{negation-negation}

-- an open literal, where some are counted
pub open_found : (s : Search) (border : Border) (a : Analysis) (index : ℕ) → IsAt s border a index → 0 < a.open_count
    → (k : ℕ) × (k < index) × (is_open border s.reasons a.marks k ≡ true)
open_found s border a index at some =
    let count = at.counted.count in
    let o = count_found (is_open border s.reasons a.marks) (length a.marks) (omega (arith, count)) in
    (o.0, at.below o.0 o.2, o.2)

pub at_positive : (s : Search) (border : Border) (a : Analysis) (index : ℕ) → IsAt s border a index → 0 < a.open_count
    → 1 ≤ index
at_positive s border a index at some = let o = open_found s border a index at some in let lt = o.1 in omega arith

pub at_lower : (s : Search) (border : Border) (a : Analysis) (index : ℕ) → IsAt s border a index → 1 ≤ index
    → IsAt s border a (index - 1 + 1)
at_lower s border a index at some =
    let e : index ≡ index - 1 + 1 = omega arith in subst (IsAt s border a) e at

-- an open literal of the last level isn't the first, where there are two
pub level_reason : (s : Search) (start : ℕ) (a : Analysis) (index : ℕ) → IsAt s (Below start) a (index + 1)
    → 1 < a.open_count → IsDecided s → start ≡ last_start s
    → is_open (Below start) s.reasons a.marks index ≡ true → get_or s.reasons index 0 ≢ 0
level_reason s start a index at some decided start_is e =
    let high : (k : ℕ) → is_open (Below start) s.reasons a.marks k ≡ true → start ≤ k =
    λ k o. ltb-false k start (but_not _ _ o).1 in
    let here = high index e in
    let within = at.counted.within index (but_not _ _ e).0 in
    ⊎_elim
    (λ first.
    let alone = count_one (is_open (Below start) s.reasons a.marks) index (length a.marks)
    (λ i lt o. let low = at.below i o in let up = high i o in omega (arith, low, up, first)) in
    let count = at.counted.count in
    absurd (omega (arith, alone, count)))
    (λ ne. let after : start < index = omega arith in
    decided.rest index (let e2 = start_is in omega (arith, after, e2)) within)
    (cases_eq index start)

abbrev is_zero : ℕ → Bool
is_zero n = eqb n 0

-- a literal that no clause made true is kept
pub assumed_reason : (s : Search) (a : Analysis) (index : ℕ)
    → is_open Assumed s.reasons a.marks index ≡ true → get_or s.reasons index 0 ≢ 0
assumed_reason s a index e none =
    let q = but_not _ _ e in
    let is : is_kept Assumed s.reasons index ≡ true = ap (λ n. is_zero n) none in
    false≢true (sym q.1 ∙ is)

-- the one open literal
pub last_is : (s : Search) (start : ℕ) (a : Analysis) (before index : ℕ) (b : Bool) → IsAt s (Below start) a before
    → a.open_count ≡ 1 → index < before
    → ((k : ℕ) → is_open (Below start) s.reasons a.marks k ≡ true → k ≤ index)
    → b ≡ get_or a.marks index b → b ≡ true → IsLastOpen s (Below start) a index
last_is s start a before index b at one lt top read e =
    let within = at.within in
    let long = at.counted.long in
    let f = is_open (Below start) s.reasons a.marks in
    let count = at.counted.count in
    let marked = marked_read a.marks index b true (omega arith) read e in
    let o = open_found s (Below start) a before at (omega (arith, one)) in
    let low = top o.0 o.2 in
    let high = ltb-false o.0 start (but_not _ _ o.2).1 in
    let is : f index ≡ true = but_is _ _ marked (le-ltb index start (omega (arith, low, high))) in
    record {
      is = is;
      within = omega arith;
      alone = λ k q. ⊎_elim (λ same. same)
          (λ ne. let less = top k q in
          let two = count_two f k index (length a.marks) (omega (arith, less)) (omega arith) q is in
          absurd (omega (arith, two, count, one)))
          (cases_eq k index);
    }

-- what isn't marked isn't the one
pub last_lower : (s : Search) (start : ℕ) (a : Analysis) (before index : ℕ) (b : Bool) → IsAt s (Below start) a before
    → a.open_count ≡ 1 → index < before
    → ((k : ℕ) → is_open (Below start) s.reasons a.marks k ≡ true → k ≤ index)
    → b ≡ get_or a.marks index b → b ≡ false
    → (1 ≤ index) × ((k : ℕ) → is_open (Below start) s.reasons a.marks k ≡ true → k ≤ index - 1)
last_lower s start a before index b at one lt top read e =
    let within = at.within in
    let long = at.counted.long in
    let f = is_open (Below start) s.reasons a.marks in
    let unmarked = marked_read a.marks index b false (omega arith) read e in
    let under : (k : ℕ) → f k ≡ true → k < index = λ k q. let le = top k q in ⊎_elim
    (λ same. absurd (false≢true (sym unmarked ∙ (ap (is_marked a.marks) (sym same) ∙ (but_not _ _ q).0))))
    (λ ne. omega (arith, le)) (cases_eq k index) in
    let o = open_found s (Below start) a before at (omega (arith, one)) in
    let some = under o.0 o.2 in
    (omega (arith, some), λ k q. let less = under k q in omega (arith, less))

-- one literal more is reached
pub reach_next : (lits clause : List Lit) (k reach index result : ℕ) (l d : Lit) → k < length clause
    → l ≡ get_or clause k d → StandsAt lits index (negation l) → IsReach lits (take k clause) reach → reach ≤ result
    → index < result → (result ≡ reach) ⊎ (result ≡ index + 1) → IsReach lits (take (k + 1) clause) result
reach_next lits clause k reach index result l d lt is at r first second one_of =
    let read : get_or clause k l ≡ l = get_or_default clause k l d lt ∙ sym is in
    let wider : (x : Lit) → Contains (take k clause) x → Contains (take (k + 1) clause) x =
    λ x c. longer_front k (k + 1) clause x (omega arith) c in
    record {
      others = λ x c. ⊎_elim
          (λ before. longer_front reach result lits (negation x) first (r.others x before))
          (λ here. let same : l ≡ x = sym read ∙ (get_or_default clause k l x lt ∙ here.1) in
          stands_front lits index result (negation x) (subst (λ (y : Lit). StandsAt lits index (negation y)) same at)
          second)
          (front_cases k clause x c);
      top = λ some. ⊎_elim
          (λ same. let t = r.top (λ none. some (same ∙ none)) in
          (t.0, wider t.0 t.1, subst (λ n. StandsAt lits (n - 1) (negation t.0)) (sym same) t.2))
          (λ new. (
            l,
            in_front (k + 1) k clause l l (omega arith) lt read,
            let e : index ≡ result - 1 = omega (arith, new) in subst (λ n. StandsAt lits n (negation l)) e at,
          ))
          one_of;
    }

pub reach_none : (lits clause : List Lit) → IsReach lits (take 0 clause) 0
reach_none lits clause = record {
  others = λ x c. absurd (Contains-nil x c);
  top = λ some. absurd (some refl);
}

-- one mark more is taken away
pub left_next : (lits clause : List Lit) (marks : List Bool) (k index : ℕ) (l d : Lit) → VarsDiffer lits
    → k < length clause → l ≡ get_or clause k d → StandsAt lits index (negation l) → AreLeft lits clause marks k
    → AreLeft lits clause (set marks index false) (k + 1)
left_next lits clause marks k index l d differ lt is at h =
    let long = h.long in
    let within : index < length marks = let w = at.within in omega arith in
    let old : (i : ℕ) → is_marked (set marks index false) i ≡ true → (is_marked marks i ≡ true) × (i ≢ index) =
    λ i e. ⊎_elim
    (λ same. absurd (false≢true (sym (marked_here marks index false within)
    ∙ (ap (is_marked (set marks index false)) (sym same) ∙ e))))
    (λ ne. (sym (marked_else marks index i false ne) ∙ e, ne))
    (cases_eq i index) in
    record {
      within = λ i e. h.within i (old i e).0;
      each = λ i x e st.
          let o = old i e in
          let f = h.each i x o.0 st in
          let ne = o.1 in
          let le = f.1 in
          ⊎_elim
          (λ same. let here : l ≡ x = is ∙ (get_or_default clause k d x lt
          ∙ (ap (λ n. get_or clause n x) (sym same) ∙ f.3)) in
          absurd (ne (stands_index lits i index (negation x) differ st
          (subst (λ (y : Lit). StandsAt lits index (negation y)) here at))))
          (λ other. (f.0, omega (arith, le), f.2, f.3))
          (cases_eq f.0 k);
      long = omega (arith, length-set marks index false);
    }

-- and at the end none is left
pub left_clear : (lits clause : List Lit) (marks : List Bool) (k : ℕ) → length clause ≤ k → AreLeft lits clause marks k
    → AreClear marks
left_clear lits clause marks k le h = record {
  each = λ i. ⊎_elim
      (λ e. let lt = h.within i e in
      let l = get_or lits i (record { var = 0; positive = false }) in
      let st : StandsAt lits i (negation (negation l)) =
      subst (StandsAt lits i) (sym (negation-negation l)) (stands_here lits i _ lt) in
      let f = h.each i (negation l) e st in
      let low = f.1 in
      let high = f.2 in
      absurd (omega (arith, low, high)))
      (λ e. e)
      (cases_Bool (is_marked marks i));
}

-- the literal of a loop over a clause, whose negation is looked up
pub item_false : (lits clause items : List Lit) (k : ℕ) (d n : Lit) → items ≡ clause
    → ((l : Lit) → Contains clause l → Contains lits (negation l)) → k < length items
    → n ≡ negation (get_or items k d) → Contains lits n
item_false lits clause items k d n same all_false lt is =
    let here : Contains clause (get_or items k d) =
    subst (λ (xs : List Lit). Contains xs (get_or items k d)) same (Contains-get_or items k d lt) in
    subst (Contains lits) (sym is) (all_false (get_or items k d) here)

pub item_at : (lits items : List Lit) (k i : ℕ) (d n : Lit) → n ≡ negation (get_or items k d)
    → slice_get lits i ≡ Some n → StandsAt lits i (negation (get_or items k d))
item_at lits items k i d n is e = subst (StandsAt lits i) is (stands_got lits i n e)

pub reached : (lits clause items : List Lit) (k reach index result : ℕ) (d : Lit) → items ≡ clause
    → k < length items → StandsAt lits index (negation (get_or items k d)) → IsReach lits (take k clause) reach
    → reach ≤ result → index < result → (result ≡ reach) ⊎ (result ≡ index + 1)
    → IsReach lits (take (k + 1) clause) result
reached lits clause items k reach index result d same lt at r first second one_of =
    reach_next lits clause k reach index result (get_or items k d) d
    (subst (λ (xs : List Lit). k < length xs) same lt) (ap (λ (xs : List Lit). get_or xs k d) same) at r first second
    one_of
