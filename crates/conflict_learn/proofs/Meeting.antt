-- A false literal is met.
use Rattle.std.proofs.Common.{◌≡◌, ◌≢◌, ℕ, ◌<◌, ◌≤◌, ◌+◌, Bool, true, false, not, eqb, List, [], ◌∷◌, ◌++◌}
use Rattle.std.proofs.Common.{length, get_or, take}
use Rattle.std.proofs.Common.{arith, ap, sym, subst, ◌∙◌, refl, ⊎_elim, inl, inr}
use Rattle.std.specs.Prelude.{◌⊎◌, ◌&&◌, Contains}
use Rattle.std.proofs.Math.Bool.{beq}
use Rattle.std.proofs.Math.ListN.{set, length-set}
use Rattle.std.proofs.lemmas.Bool.{cases_eq, cases_Bool, false≢true}
use Rattle.std.proofs.lemmas.List.{get_or-set_same, get_or-set_other, get_or_default}
use Rattle.std.proofs.lemmas.List.Elements.{Contains-append_left}
use Rattle.lists.proofs.Membership.{Contains-pushed, Contains-nil}
use Rattle.plain_lits.specs.declared.lit.Lit.{Lit}
use Rattle.plain_lits.specs.Literals.{negation}
use Rattle.plain_lits.proofs.LitOrder.{lit_eq_itself, same_from_eq}
use Rattle.unit_propagate.specs.Search.{Search}
use Rattle.clause_watches.proofs.Fronts.{pushed_cases, longer_front, in_front, front_cases}
use Rattle.conflict_learn.specs.declared.workspace.Border.{Border}
use Rattle.conflict_learn.specs.Learning.{StandsAt}
use Rattle.conflict_learn.specs.Analyses.{Analysis, AreClear, IsCounted, IsMet, Meets, OthersOf}
use Rattle.conflict_learn.specs.Analyses.{is_marked, is_kept, is_open, count_to}
use Rattle.conflict_learn.proofs.Counting.{count_up, count_same, count_room, count_none}
use Rattle.conflict_learn.proofs.Literally.{stands_same, but_not, but_is}
use Rattle.conflict_learn.proofs.Literally.{but_marked, but_kept}
use Rattle.plain_lits.proofs.CheckingLemmas.{negation_same}

-- marks with one more
pub marked_here : (marks : List Bool) (i : ℕ) (b : Bool) → i < length marks → is_marked (set marks i b) i ≡ b
marked_here marks i b lt = get_or-set_same marks i b false lt

pub marked_else : (marks : List Bool) (i k : ℕ) (b : Bool) → k ≢ i → is_marked (set marks i b) k ≡ is_marked marks k
marked_else marks i k b ne = get_or-set_other marks i k b false ne

-- a mark that is true after one was set
pub marked_back : (marks : List Bool) (i k : ℕ) → is_marked (set marks i true) k ≡ true
    → (is_marked marks k ≡ true) ⊎ (k ≡ i)
marked_back marks i k e =
    ⊎_elim (λ here. inr here) (λ ne. inl (sym (marked_else marks i k true ne) ∙ e)) (cases_eq k i)

pub marked_stays : (marks : List Bool) (i k : ℕ) → i < length marks → is_marked marks k ≡ true
    → is_marked (set marks i true) k ≡ true
marked_stays marks i k lt e =
    ⊎_elim (λ here. ap (λ n. is_marked (set marks i true) n) here ∙ marked_here marks i true lt)
    (λ ne. marked_else marks i k true ne ∙ e) (cases_eq k i)

counted_as : (f g : ℕ → Bool) (n : ℕ) → ((k : ℕ) → f k ≡ g k) → count_to f n ≡ count_to g n
counted_as f g n h = count_same f g n (λ i lt. h i)

-- what a literal leaves that is kept
abbrev pub with_kept : Analysis → Lit → ℕ → Analysis
with_kept a l i = record a { marks = set a.marks i true; clause = a.clause ++ l ∷ [] }

-- and one that is open
abbrev pub with_open : Analysis → ℕ → Analysis
with_open a i = record a { marks = set a.marks i true; open_count = a.open_count + 1 }

pub kept_counted : (s : Search) (border : Border) (a : Analysis) (l : Lit) (i : ℕ) → IsCounted s border a
    → StandsAt s.lits i (negation l) → is_marked a.marks i ≡ false → is_kept border s.reasons i ≡ true
    → IsCounted s border (with_kept a l i)
kept_counted s border a l i h at fresh kept =
    let long = h.long in
    let lt : i < length a.marks = let w = at.within in omega arith in
    let f = is_open border s.reasons a.marks in
    let g = is_open border s.reasons (set a.marks i true) in
    let same : (k : ℕ) → f k ≡ g k = λ k. ⊎_elim
    (λ here. ap f here ∙ (but_kept (is_marked a.marks i) _ kept
    ∙ sym (ap g here ∙ but_kept (is_marked (set a.marks i true) i) _ kept)))
    (λ ne. ap (λ b. b && not (is_kept border s.reasons k)) (sym (marked_else a.marks i k true ne)))
    (cases_eq k i) in
    record {
      long = omega (arith, length-set a.marks i true);
      count = h.count ∙ (counted_as f g (length a.marks) same
          ∙ ap (λ n. count_to g n) (sym (length-set a.marks i true)));
      within = λ k e. ⊎_elim (λ old. h.within k old) (λ here. let w = at.within in omega arith)
          (marked_back a.marks i k e);
      in_clause = λ k x e q st. ⊎_elim
          (λ old. Contains-append_left a.clause (l ∷ []) x (h.in_clause k x old q st))
          (λ here. Contains-pushed a.clause l x (negation_same l x
          (stands_same s.lits i (negation l) (negation x) at (subst (λ n. StandsAt s.lits n (negation x)) here st))))
          (marked_back a.marks i k e);
      kept = λ x c. ⊎_elim (λ old. h.kept x old)
          (λ e. (i, subst (λ (y : Lit). StandsAt s.lits i (negation y)) e at, kept))
          (pushed_cases a.clause l x c);
    }

pub kept_meets : (s : Search) (border : Border) (a : Analysis) (l : Lit) (i : ℕ) → IsCounted s border a
    → StandsAt s.lits i (negation l) → is_marked a.marks i ≡ false → is_kept border s.reasons i ≡ true
    → Meets s border a (with_kept a l i) (λ x. x ≡ l)
kept_meets s border a l i h at fresh kept =
    let lt : i < length a.marks = let w = at.within in let long = h.long in omega arith in
    record {
      hints_same = refl;
      stay = λ k e. marked_stays a.marks i k lt e;
      back = λ k e. ⊎_elim (λ old. inl old)
          (λ here. inr (l, refl, subst (λ n. StandsAt s.lits n (negation l)) (sym here) at))
          (marked_back a.marks i k e);
      clause_stay = λ x c. Contains-append_left a.clause (l ∷ []) x c;
      clause_back = λ x c. ⊎_elim (λ old. inl old) (λ e. inr (sym e)) (pushed_cases a.clause l x c);
      met = λ x e. inl (Contains-pushed a.clause l x (sym e));
      count = omega arith;
    }

pub open_counted : (s : Search) (border : Border) (a : Analysis) (l : Lit) (i : ℕ) → IsCounted s border a
    → StandsAt s.lits i (negation l) → is_marked a.marks i ≡ false → is_kept border s.reasons i ≡ false
    → IsCounted s border (with_open a i)
open_counted s border a l i h at fresh unkept =
    let long = h.long in
    let lt : i < length a.marks = let w = at.within in omega arith in
    let f = is_open border s.reasons a.marks in
    let g = is_open border s.reasons (set a.marks i true) in
    let more = count_up f g i (length a.marks) lt (but_marked _ (is_kept border s.reasons i) fresh)
    (but_is _ _ (marked_here a.marks i true lt) unkept)
    (λ k ne. ap (λ b. b && not (is_kept border s.reasons k)) (sym (marked_else a.marks i k true ne))) in
    record {
      long = omega (arith, length-set a.marks i true);
      count = ap (λ n. n + 1) h.count ∙ (sym more ∙ ap (λ n. count_to g n) (sym (length-set a.marks i true)));
      within = λ k e. ⊎_elim (λ old. h.within k old) (λ here. let w = at.within in omega arith)
          (marked_back a.marks i k e);
      in_clause = λ k x e q st. ⊎_elim
          (λ old. h.in_clause k x old q st)
          (λ here. absurd (false≢true (sym unkept ∙ (ap (λ n. is_kept border s.reasons n) (sym here) ∙ q))))
          (marked_back a.marks i k e);
      kept = h.kept;
    }

pub open_meets : (s : Search) (border : Border) (a : Analysis) (l : Lit) (i : ℕ) → IsCounted s border a
    → StandsAt s.lits i (negation l) → is_marked a.marks i ≡ false → is_kept border s.reasons i ≡ false
    → Meets s border a (with_open a i) (λ x. x ≡ l)
open_meets s border a l i h at fresh unkept =
    let lt : i < length a.marks = let w = at.within in let long = h.long in omega arith in
    record {
      hints_same = refl;
      stay = λ k e. marked_stays a.marks i k lt e;
      back = λ k e. ⊎_elim (λ old. inl old)
          (λ here. inr (l, refl, subst (λ n. StandsAt s.lits n (negation l)) (sym here) at))
          (marked_back a.marks i k e);
      clause_stay = λ x c. c;
      clause_back = λ x c. inl c;
      met = λ x e. inr (
        i,
        subst (λ (y : Lit). StandsAt s.lits i (negation y)) (sym e) at,
        but_is _ _ (marked_here a.marks i true lt) unkept,
      );
      count = omega arith;
    }

-- there is room to count one more
pub open_room : (s : Search) (border : Border) (a : Analysis) (i : ℕ) → IsCounted s border a
    → i < length s.lits → is_marked a.marks i ≡ false → a.open_count < length a.marks
open_room s border a i h lt fresh =
    let long = h.long in
    let room = count_room (is_open border s.reasons a.marks) i (length a.marks) (omega arith)
    (but_marked _ (is_kept border s.reasons i) fresh) in
    let count = h.count in
    omega (arith, room, count)

-- a literal whose negation is marked is met
pub marked_meets : (s : Search) (border : Border) (a : Analysis) (l : Lit) (i : ℕ) → IsCounted s border a
    → StandsAt s.lits i (negation l) → is_marked a.marks i ≡ true → Meets s border a a (λ x. x ≡ l)
marked_meets s border a l i h at marked = record {
  hints_same = refl;
  stay = λ k e. e;
  back = λ k e. inl e;
  clause_stay = λ x c. c;
  clause_back = λ x c. inl c;
  met = λ x e. ⊎_elim
      (λ kept. inl (h.in_clause i x marked kept (subst (λ (y : Lit). StandsAt s.lits i (negation y)) (sym e) at)))
      (λ unkept. inr (i, subst (λ (y : Lit). StandsAt s.lits i (negation y)) (sym e) at, but_is _ _ marked unkept))
      (cases_Bool (is_kept border s.reasons i));
  count = omega arith;
}

-- nothing is met at first
pub meets_none : (s : Search) (border : Border) (a : Analysis) (clause : List Lit) (but : Lit)
    → Meets s border a a (OthersOf (take 0 clause) but)
meets_none s border a clause but = record {
  hints_same = refl;
  stay = λ k e. e;
  back = λ k e. inl e;
  clause_stay = λ x c. c;
  clause_back = λ x c. inl c;
  met = λ x e. absurd (Contains-nil x e.0);
  count = omega arith;
}

-- what is met stays so
met_stays : (s : Search) (border : Border) (mid new : Analysis) (P : Lit → Type 0) (l : Lit) → Meets s border mid new P
    → IsMet s border mid l → IsMet s border new l
met_stays s border mid new P l m h =
    ⊎_elim (λ c. inl (m.clause_stay l c))
    (λ o. inr (o.0, o.1, let w = but_not _ _ o.2 in but_is _ _ (m.stay o.0 w.0) w.1))
    h

-- one literal more of a clause is met
pub meets_next : (s : Search) (border : Border) (a mid new : Analysis) (clause : List Lit) (but l : Lit) (k : ℕ)
    → k < length clause → l ≡ get_or clause k l → l ≢ but → Meets s border a mid (OthersOf (take k clause) but)
    → Meets s border mid new (λ x. x ≡ l) → Meets s border a new (OthersOf (take (k + 1) clause) but)
meets_next s border a mid new clause but l k lt is ne m n =
    let wider : (x : Lit) → OthersOf (take k clause) but x → OthersOf (take (k + 1) clause) but x =
    λ x o. (longer_front k (k + 1) clause x (omega arith) o.0, o.1) in
    let here : (x : Lit) → x ≡ l → OthersOf (take (k + 1) clause) but x =
    λ x e. subst (λ (y : Lit). OthersOf (take (k + 1) clause) but y) (sym e)
    (in_front (k + 1) k clause l l (omega arith) lt (sym is), ne) in
    record {
      hints_same = n.hints_same ∙ m.hints_same;
      stay = λ i e. n.stay i (m.stay i e);
      back = λ i e. ⊎_elim
          (λ old. ⊎_elim (λ older. inl older) (λ w. inr (w.0, wider w.0 w.1, w.2)) (m.back i old))
          (λ w. inr (w.0, here w.0 w.1, w.2))
          (n.back i e);
      clause_stay = λ x c. n.clause_stay x (m.clause_stay x c);
      clause_back = λ x c. ⊎_elim
          (λ old. ⊎_elim (λ older. inl older) (λ w. inr (wider x w)) (m.clause_back x old))
          (λ e. inr (here x e))
          (n.clause_back x c);
      met = λ x o. ⊎_elim
          (λ before. met_stays s border mid new (λ y. y ≡ l) x n (m.met x (before, o.1)))
          (λ at. n.met x (sym at.1 ∙ (get_or_default clause k x l lt ∙ sym is)))
          (front_cases k clause x o.0);
      count = let c1 = m.count in let c2 = n.count in omega (arith, c1, c2);
    }

-- or passed over
pub meets_past : (s : Search) (border : Border) (a mid : Analysis) (clause : List Lit) (but l : Lit) (k : ℕ)
    → k < length clause → l ≡ get_or clause k l → l ≡ but → Meets s border a mid (OthersOf (take k clause) but)
    → Meets s border a mid (OthersOf (take (k + 1) clause) but)
meets_past s border a mid clause but l k lt is e m =
    let wider : (x : Lit) → OthersOf (take k clause) but x → OthersOf (take (k + 1) clause) but x =
    λ x o. (longer_front k (k + 1) clause x (omega arith) o.0, o.1) in
    record {
      hints_same = m.hints_same;
      stay = m.stay;
      back = λ i q. ⊎_elim (λ older. inl older) (λ w. inr (w.0, wider w.0 w.1, w.2)) (m.back i q);
      clause_stay = m.clause_stay;
      clause_back = λ x c. ⊎_elim (λ older. inl older) (λ w. inr (wider x w)) (m.clause_back x c);
      met = λ x o. ⊎_elim (λ before. m.met x (before, o.1))
          (λ at. absurd (o.1 (sym at.1 ∙ (get_or_default clause k x l lt ∙ (sym is ∙ e)))))
          (front_cases k clause x o.0);
      count = m.count;
    }

-- the clause as it is after the push
pub kept_pushed : (s : Search) (border : Border) (a : Analysis) (l : Lit) (i : ℕ) (clause : List Lit)
    → IsCounted s border a → StandsAt s.lits i (negation l) → is_marked a.marks i ≡ false
    → is_kept border s.reasons i ≡ true → clause ≡ a.clause ++ l ∷ []
    → IsCounted s border (record a { marks = set a.marks i true; clause = clause })
    × Meets s border a (record a { marks = set a.marks i true; clause = clause }) (λ x. x ≡ l)
kept_pushed s border a l i clause h at fresh kept e =
    subst (λ xs. IsCounted s border (record a { marks = set a.marks i true; clause = xs })
    × Meets s border a (record a { marks = set a.marks i true; clause = xs }) (λ x. x ≡ l)) (sym e)
    (kept_counted s border a l i h at fresh kept, kept_meets s border a l i h at fresh kept)

-- a mark that is read
pub marked_read : (marks : List Bool) (i : ℕ) (b r : Bool) → i < length marks → b ≡ get_or marks i b → b ≡ r
    → is_marked marks i ≡ r
marked_read marks i b r lt read e = get_or_default marks i false b lt ∙ (sym read ∙ e)

-- where nothing is marked, nothing is counted
pub begun : (s : Search) (border : Border) (marks : List Bool) (clause : List Lit) (hints : List ℕ) → AreClear marks
    → s.vars ≤ length marks → length s.lits ≤ s.vars → clause ≡ []
    → IsCounted s border (record { marks = marks; open_count = 0; clause = clause; hints = hints })
begun s border marks clause hints clear long short e = record {
  long = omega arith;
  count = sym (count_none (is_open border s.reasons marks) (length marks)
      (λ i lt. but_marked _ (is_kept border s.reasons i) (clear.each i)));
  within = λ k m. absurd (false≢true (sym (clear.each k) ∙ m));
  in_clause = λ k x m. absurd (false≢true (sym (clear.each k) ∙ m));
  kept = λ l c. absurd (Contains-nil l (subst (λ xs. Contains xs l) e c));
}

-- what a test of two literals says
apart_if : (a b : Lit) (r : Bool) → r ≡ not (eqb a.var b.var && beq a.positive b.positive) → r ≡ true → a ≢ b
apart_if a b r is e same =
    let itself : (eqb a.var b.var && beq a.positive b.positive) ≡ true =
    ap (λ (x : Lit). eqb a.var x.var && beq a.positive x.positive) (sym same) ∙ lit_eq_itself a in
    false≢true (sym (is ∙ ap not itself) ∙ e)

same_if : (a b : Lit) (r : Bool) → r ≡ not (eqb a.var b.var && beq a.positive b.positive) → r ≡ false → a ≡ b
same_if a b r is e =
    same_from_eq a b (⊎_elim (λ t. t)
    (λ f. absurd (false≢true (sym e ∙ (is ∙ ap not f))))
    (cases_Bool (eqb a.var b.var && beq a.positive b.positive)))

-- one literal more, as the loop has it
pub all_met : (s : Search) (border : Border) (a mid new joined : Analysis) (clause items : List Lit) (but item l : Lit)
    (k : ℕ) (r : Bool) → items ≡ clause → k < length items → item ≡ get_or items k item → l ≡ item
    → r ≡ not (eqb l.var but.var && beq l.positive but.positive) → r ≡ true
    → Meets s border a mid (OthersOf (take k clause) but) → IsCounted s border new → Meets s border mid new (λ x. x ≡ l)
    → joined ≡ new
    → IsCounted s border joined × Meets s border a joined (OthersOf (take (k + 1) clause) but)
all_met s border a mid new joined clause items but item l k r same lt is e test yes_it m counted n j =
    let within : k < length clause = subst (λ (xs : List Lit). k < length xs) same lt in
    let read : item ≡ get_or clause k item = subst (λ (xs : List Lit). item ≡ get_or xs k item) same is in
    subst (λ x. IsCounted s border x × Meets s border a x (OthersOf (take (k + 1) clause) but)) (sym j) (
      counted,
      meets_next s border a mid new clause but l k within
          (e ∙ (read ∙ get_or_default clause k item l within)) (apart_if l but r test yes_it) m n,
    )

pub all_past : (s : Search) (border : Border) (a mid joined : Analysis) (clause items : List Lit) (but item l : Lit)
    (k : ℕ) (r : Bool) → items ≡ clause → k < length items → item ≡ get_or items k item → l ≡ item
    → r ≡ not (eqb l.var but.var && beq l.positive but.positive) → r ≡ false
    → IsCounted s border mid → Meets s border a mid (OthersOf (take k clause) but) → joined ≡ mid
    → IsCounted s border joined × Meets s border a joined (OthersOf (take (k + 1) clause) but)
all_past s border a mid joined clause items but item l k r same lt is e test not_it counted m j =
    let within : k < length clause = subst (λ (xs : List Lit). k < length xs) same lt in
    let read : item ≡ get_or clause k item = subst (λ (xs : List Lit). item ≡ get_or xs k item) same is in
    subst (λ x. IsCounted s border x × Meets s border a x (OthersOf (take (k + 1) clause) but)) (sym j) (
      counted,
      meets_past s border a mid clause but l k within
          (e ∙ (read ∙ get_or_default clause k item l within)) (same_if l but r test not_it) m,
    )
