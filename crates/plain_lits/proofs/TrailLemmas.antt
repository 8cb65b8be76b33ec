-- The arrays of the true literals, as literals come and go.
use Rattle.std.proofs.Common.{◌≡◌, ◌≢◌, ℕ, ◌<◌, ◌≤◌, ◌+◌, ◌-◌, ◌*◌, List, [], ◌∷◌, ◌++◌, length}
use Rattle.std.proofs.Common.{length-append, length-take, min, get_or, arith, ap, sym, ◌∙◌, refl, ⊎_elim}
use Rattle.std.proofs.Common.{Bool, true, false, take}
use Rattle.std.specs.Prelude.{Contains, sum_by, replicate, Result, Ok, Err, OnErr, is_ok, if◌then◌else◌}
use Rattle.std.proofs.Math.ListN.{set, length-set, length-replicate}
use Rattle.std.proofs.lemmas.Bool.{cases_lt, cases_eq}
use Rattle.std.proofs.lemmas.List.{get_or_default, get_or_append_left, get_or-append_right, get_or-set_same}
use Rattle.std.proofs.lemmas.List.{get_or-set_other, get_or-replicate, get_or-take, take_all}
use Rattle.std.proofs.lemmas.List.Sums.{sum_by-set, sum_by-append}
use Rattle.std.proofs.lemmas.List.Folds.{sum_by-replicate}
use Rattle.plain_lits.specs.declared.lit.Lit.{Lit}
use Rattle.plain_lits.specs.declared.value.Value.{Value}
use Rattle.plain_lits.specs.declared.value.Value.TheVariants.{True, False, Unset}
use Rattle.plain_lits.specs.Literals.{negation}
use Rattle.plain_lits.specs.Values.{from_sign, for_sign, IsValueIn}
use Rattle.plain_lits.specs.TrailArrays.{AreAssigned, IsAssignedAt, is_unset}
use Rattle.plain_lits.specs.Trails.{AssignmentState, TrailState, AreLevels, IsAssignmentState, IsTrailState}
use Rattle.plain_lits.proofs.LitOrder.{lit_same}

-- a trail by its assignment and its levels
abbrev pub trail_of : AssignmentState → List ℕ → TrailState
trail_of a starts = record { lits = a.lits; starts = starts; vars = a.vars }

signs_same : (p q : Bool) → from_sign p ≡ from_sign q → p ≡ q
signs_same false false e = refl
signs_same false true e = cc
signs_same true false e = cc
signs_same true true e = refl

not_unset : (p : Bool) → from_sign p ≡ Unset → ⊥
not_unset false e = cc
not_unset true e = cc

-- a true literal's variable has its value
pub reads_there : (trail : List Lit) (values : List Value) (positions : List ℕ) → AreAssigned trail values positions
    → (l : Lit) → Contains trail l
    → (l.var < length values) × (get_or values l.var Unset ≡ from_sign l.positive)
reads_there trail values positions h l c =
    let m : IsAssignedAt l values positions c.0 = rw c.2 at (h.assigned c.0 l c.1) in (m.within, m.value)

-- and a variable's value is that of a true literal
pub reads_back : (trail : List Lit) (values : List Value) (positions : List ℕ) → AreAssigned trail values positions
    → (l : Lit) → l.var < length values → get_or values l.var Unset ≡ from_sign l.positive → Contains trail l
reads_back trail values positions h l lt e =
    let b = h.backed l.var l lt (λ none. not_unset l.positive (sym e ∙ none)) in
    let m = h.assigned (get_or positions l.var 0) l b.0 in
    let same = b.1 in
    let value : get_or values l.var Unset ≡ from_sign (get_or trail (get_or positions l.var 0) l).positive =
    rw same at m.value in
    (get_or positions l.var 0, b.0, lit_same _ l same (signs_same _ _ (sym value ∙ e)))

abbrev lit_of : ℕ → Bool → Lit
lit_of v p = record { var = v; positive = p }

signed_value : (trail : List Lit) (values : List Value) (positions : List ℕ) → AreAssigned trail values positions
    → (n : ℕ) (p : Bool) (v : Value) → n < length values → get_or values n Unset ≡ v
    → IsValueIn trail (lit_of n p) (for_sign v p)
signed_value trail values positions h n true True lt e = (
  reads_back trail values positions h (lit_of n true) lt e,
  λ c. let t = reads_there trail values positions h (lit_of n false) c in let e2 = t.1 in cc,
)
signed_value trail values positions h n false True lt e = (
  reads_back trail values positions h (lit_of n true) lt e,
  λ c. let t = reads_there trail values positions h (lit_of n false) c in let e2 = t.1 in cc,
)
signed_value trail values positions h n true False lt e = (
  reads_back trail values positions h (lit_of n false) lt e,
  λ c. let t = reads_there trail values positions h (lit_of n true) c in let e2 = t.1 in cc,
)
signed_value trail values positions h n false False lt e = (
  reads_back trail values positions h (lit_of n false) lt e,
  λ c. let t = reads_there trail values positions h (lit_of n true) c in let e2 = t.1 in cc,
)
signed_value trail values positions h n true Unset lt e = (
  λ c. let t = reads_there trail values positions h (lit_of n true) c in let e2 = t.1 in cc,
  λ c. let t = reads_there trail values positions h (lit_of n false) c in let e2 = t.1 in cc,
)
signed_value trail values positions h n false Unset lt e = (
  λ c. let t = reads_there trail values positions h (lit_of n false) c in let e2 = t.1 in cc,
  λ c. let t = reads_there trail values positions h (lit_of n true) c in let e2 = t.1 in cc,
)

-- the value that the arrays give is the literal's
pub value_is : (trail : List Lit) (values : List Value) (positions : List ℕ) → AreAssigned trail values positions
    → (l : Lit) (v : Value) → l.var < length values → get_or values l.var Unset ≡ v
    → IsValueIn trail l (for_sign v l.positive)
value_is trail values positions h l v lt e = signed_value trail values positions h l.var l.positive v lt e

-- a variable without room has no value
pub value_beyond : (trail : List Lit) (values : List Value) (positions : List ℕ) → AreAssigned trail values positions
    → (l : Lit) → length values ≤ l.var → IsValueIn trail l Unset
value_beyond trail values positions h l le = (
  λ c. let t = reads_there trail values positions h l c in let lt = t.0 in absurd (omega arith),
  λ c. let t = reads_there trail values positions h (negation l) c in let lt = t.0 in absurd (omega arith),
)

unset_signs : (trail : List Lit) (values : List Value) (positions : List ℕ) → AreAssigned trail values positions
    → (n : ℕ) (p : Bool) (v : Value) → n < length values → get_or values n Unset ≡ v
    → IsValueIn trail (lit_of n p) Unset → v ≡ Unset
unset_signs trail values positions h n p Unset lt e none = refl
unset_signs trail values positions h n true True lt e none =
    absurd (none.0 (reads_back trail values positions h (lit_of n true) lt e))
unset_signs trail values positions h n false True lt e none =
    absurd (none.1 (reads_back trail values positions h (lit_of n true) lt e))
unset_signs trail values positions h n true False lt e none =
    absurd (none.1 (reads_back trail values positions h (lit_of n false) lt e))
unset_signs trail values positions h n false False lt e none =
    absurd (none.0 (reads_back trail values positions h (lit_of n false) lt e))

-- a literal without value has a variable without value
pub unset_value : (trail : List Lit) (values : List Value) (positions : List ℕ) → AreAssigned trail values positions
    → (l : Lit) → l.var < length values → IsValueIn trail l Unset → get_or values l.var Unset ≡ Unset
unset_value trail values positions h l lt none = unset_signs trail values positions h l.var l.positive _ lt refl none

-- so not every variable has a literal yet
pub unset_left : (trail : List Lit) (values : List Value) (positions : List ℕ) → AreAssigned trail values positions
    → (v : ℕ) → v < length values → get_or values v Unset ≡ Unset → length trail < length values
unset_left trail values positions h v lt none =
    let moved = sum_by-set is_unset values v True Unset lt in
    let one : is_unset (get_or values v Unset) ≡ 1 = ap is_unset none in
    let all = h.counted in
    omega (arith, moved, one, all)

is_unset_sign : (p : Bool) → is_unset (from_sign p) ≡ 0
is_unset_sign true = refl
is_unset_sign false = refl

-- a literal without value comes at the end
pub push_assigned : (trail : List Lit) (values : List Value) (positions : List ℕ) (l : Lit)
    → AreAssigned trail values positions → l.var < length values → get_or values l.var Unset ≡ Unset
    → AreAssigned (trail ++ l ∷ []) (set values l.var (from_sign l.positive)) (set positions l.var (length trail))
push_assigned trail values positions l h lt none =
    let longs = h.long in
    record {
      long = omega (arith, longs, length-set {A = Value}, length-set {A = ℕ});
      assigned = λ i d in_new. ⊎_elim
          (λ old.
          let m : IsAssignedAt (get_or trail i d) values positions i = h.assigned i d old in
          let apart : (get_or trail i d).var ≢ l.var = λ e. not_unset (get_or trail i d).positive (sym m.value
          ∙ (ap (λ n. get_or values n Unset) e ∙ none)) in
          let within = m.within in
          rw (get_or_append_left trail (l ∷ []) d i old) (record {
            within = omega (arith, within, length-set {A = Value});
            value = get_or-set_other values l.var (get_or trail i d).var (from_sign l.positive) Unset apart ∙ m.value;
            at = get_or-set_other positions l.var (get_or trail i d).var (length trail) 0 apart ∙ m.at;
          }))
          (λ last.
          let e : i ≡ length trail = omega (arith, length-append trail (l ∷ [])) in
          let here : get_or (trail ++ l ∷ []) i d ≡ l = ap (λ k. get_or (trail ++ l ∷ []) k d) e
          ∙ (get_or-append_right trail (l ∷ []) (length trail) (length trail) d refl (omega arith)
          ∙ ap (λ k. get_or (l ∷ []) k d) (let z : length trail - length trail ≡ 0 = omega arith in z)) in
          rw here (record {
            within = omega (arith, length-set {A = Value});
            value = get_or-set_same values l.var (from_sign l.positive) Unset lt;
            at = get_or-set_same positions l.var (length trail) 0 (omega arith) ∙ sym e;
          }))
          (cases_lt i (length trail));
      backed = λ v d in_values some. ⊎_elim
          (λ e.
          let at : get_or (set positions l.var (length trail)) v 0 ≡ length trail =
          ap (λ k. get_or (set positions l.var (length trail)) k 0) e ∙ get_or-set_same positions l.var
          (length trail) 0 (omega arith) in
          let here : get_or (trail ++ l ∷ []) (length trail) d ≡ l = get_or-append_right trail (l ∷ []) (length trail)
          (length trail) d refl (omega arith) ∙ ap (λ k. get_or (l ∷ []) k d) (let z : length trail - length trail
          ≡ 0 = omega arith in z) in
          rw (at, here) (omega (arith, length-append trail (l ∷ [])), sym e))
          (λ ne.
          let apart : v ≢ l.var = λ e. let bad : v ≡ l.var = e in (omega arith) in
          let at : get_or (set positions l.var (length trail)) v 0 ≡ get_or positions v 0 =
          get_or-set_other positions l.var v (length trail) 0 apart in
          let in_old : v < length values = omega (arith, length-set {A = Value}) in
          let b = h.backed v d in_old (λ u. some (get_or-set_other values l.var v (from_sign l.positive) Unset apart
          ∙ u)) in
          let in_order = b.0 in
          rw (at, get_or_append_left trail (l ∷ []) d (get_or positions v 0) in_order)
          (omega (arith, length-append trail (l ∷ [])), b.1))
          (cases_eq v l.var);
      counted =
          let moved = sum_by-set is_unset values l.var (from_sign l.positive) Unset lt in
          let one : is_unset (get_or values l.var Unset) ≡ 1 = ap is_unset none in
          let zero = is_unset_sign l.positive in
          let all = h.counted in
          omega (arith, moved, one, zero, all, length-append trail (l ∷ []), length-set {A = Value});
    }

-- the last literal goes
pub pop_assigned : (trail : List Lit) (values : List Value) (positions : List ℕ) (l : Lit)
    → AreAssigned (trail ++ l ∷ []) values positions → AreAssigned trail (set values l.var Unset) positions
pop_assigned trail values positions l h =
    let long = length-append trail (l ∷ []) in
    let here : (d : Lit) → get_or (trail ++ l ∷ []) (length trail) d ≡ l = λ d. get_or-append_right trail (l ∷ [])
    (length trail) (length trail) d refl (omega arith) ∙ ap (λ k. get_or (l ∷ []) k d)
    (let z : length trail - length trail ≡ 0 = omega arith in z) in
    let last : IsAssignedAt l values positions (length trail) =
    rw (here l) at (h.assigned (length trail) l (omega arith)) in
    let in_values = last.within in
    let longs = h.long in
    record {
      long = omega (arith, longs, length-set {A = Value});
      assigned = λ i d lt.
          let m : IsAssignedAt (get_or trail i d) values positions i =
          rw (get_or_append_left trail (l ∷ []) d i lt) at (h.assigned i d (omega arith)) in
          let apart : (get_or trail i d).var ≢ l.var = λ e. let same : i ≡ length trail = sym m.at
          ∙ (ap (λ n. get_or positions n 0) e ∙ last.at) in omega arith in
          let within = m.within in
          record {
            within = omega (arith, within, length-set {A = Value});
            value = get_or-set_other values l.var (get_or trail i d).var Unset Unset apart ∙ m.value;
            at = m.at;
          };
      backed = λ v d lt some.
          let apart : v ≢ l.var = λ e. some (ap (λ n. get_or (set values l.var Unset) n Unset) e
          ∙ get_or-set_same values l.var Unset Unset in_values) in
          let b = h.backed v d (omega (arith, length-set {A = Value}))
          (λ u. some (get_or-set_other values l.var v Unset Unset apart ∙ u)) in
          let far : get_or positions v 0 ≢ length trail =
          λ e. apart (sym b.1 ∙ ap (λ (x : Lit). x.var) (ap (λ k. get_or (trail ++ l ∷ []) k d) e ∙ here d)) in
          let in_long = b.0 in
          let lt : get_or positions v 0 < length trail = omega arith in
          (lt, rw (get_or_append_left trail (l ∷ []) d (get_or positions v 0) lt) at b.1);
      counted =
          let moved = sum_by-set is_unset values l.var Unset Unset in_values in
          let zero : is_unset (get_or values l.var Unset) ≡ 0 = ap is_unset last.value ∙ is_unset_sign l.positive in
          let all = h.counted in
          omega (arith, moved, zero, all, long, length-set {A = Value});
    }

-- more positions
pub assigned_positions : (trail : List Lit) (values : List Value) (positions longer : List ℕ)
    → AreAssigned trail values positions → length values ≤ length longer
    → ((k : ℕ) → k < length values → get_or longer k 0 ≡ get_or positions k 0) → AreAssigned trail values longer
assigned_positions trail values positions longer h le same = record {
  long = le;
  assigned = λ i d lt. let m = h.assigned i d lt in record {
    within = m.within;
    value = m.value;
    at = same _ m.within ∙ m.at;
  };
  backed = λ v d lt some. rw (same v lt) (h.backed v d lt some);
  counted = h.counted;
}

-- more variables, without values
pub assigned_values : (trail : List Lit) (values longer : List Value) (positions : List ℕ) (n : ℕ)
    → AreAssigned trail values positions → length values ≤ n → n ≤ length positions
    → longer ≡ take n values ++ replicate (n - length values) Unset → AreAssigned trail longer positions
assigned_values trail values longer positions n h le in_positions e =
    let blanks : List Value = replicate (n - length values) Unset in
    let same : longer ≡ values ++ blanks = rw (take_all n values le) at e in
    let count : length blanks ≡ n - length values = length-replicate (n - length values) Unset in
    let long : length longer ≡ n = ap length same ∙ omega (arith, length-append values blanks, count) in
    let low : (v : ℕ) → v < length values → get_or longer v Unset ≡ get_or values v Unset =
    λ v lt. ap (λ (xs : List Value). get_or xs v Unset) same ∙ get_or_append_left values blanks Unset v lt in
    record {
      long = omega (arith, long);
      assigned = λ i d lt. let m = h.assigned i d lt in let within = m.within in record {
        within = omega (arith, within, long);
        value = low _ m.within ∙ m.value;
        at = m.at;
      };
      backed = λ v d lt some. ⊎_elim
          (λ old. h.backed v d old (λ u. some (low v old ∙ u)))
          (λ new. absurd (some (ap (λ (xs : List Value). get_or xs v Unset) same
          ∙ (get_or-append_right values blanks (length values) v Unset refl new
          ∙ get_or-replicate (n - length values) (v - length values) Unset Unset (omega (arith, long))))))
          (cases_lt v (length values));
      counted =
          let all = h.counted in
          let sums : sum_by is_unset longer ≡ sum_by is_unset values + sum_by is_unset blanks =
          ap (λ (xs : List Value). sum_by is_unset xs) same ∙ sum_by-append is_unset values blanks in
          let ones : sum_by is_unset blanks ≡ (n - length values) * 1 = sum_by-replicate is_unset (n - length values)
          Unset in
          omega (arith, all, sums, ones, long);
    }

-- a literal that comes, by what the arrays become
pub pushed_assigned : (trail new_trail : List Lit) (values new_values : List Value) (positions new_positions : List ℕ)
    (l : Lit)
    → AreAssigned trail values positions → l.var < length values → IsValueIn trail l Unset
    → new_trail ≡ trail ++ l ∷ [] → new_values ≡ set values l.var (from_sign l.positive)
    → new_positions ≡ set positions l.var (length trail) → AreAssigned new_trail new_values new_positions
pushed_assigned trail new_trail values new_values positions new_positions l h lt none eo ev ep =
    rw (eo, ev, ep) (push_assigned trail values positions l h lt (unset_value trail values positions h l lt none))

-- a push where there was room
pub pushed_in_room : {E T : Type 0} (r : Result (Unit {0}) E) (xs new : List T) (x : T) (P : Type 0)
    → OnErr r P → ¬ P → new ≡ (if is_ok r then xs ++ x ∷ [] else xs) → new ≡ xs ++ x ∷ []
pushed_in_room (Ok u) xs new x P full free e = e
pushed_in_room (Err f) xs new x P full free e = absurd (free full)

-- the value that an array read gives
pub value_read : (trail : List Lit) (values read : List Value) (positions : List ℕ) (l : Lit) (d v : Value)
    → AreAssigned trail values positions → read ≡ values → l.var < length values
    → v ≡ for_sign (get_or read l.var d) l.positive → IsValueIn trail l v
value_read trail values read positions l d v h same lt e =
    let at : get_or read l.var d ≡ get_or values l.var Unset = ap (λ (xs : List Value). get_or xs l.var d) same
    ∙ get_or_default values l.var d Unset lt in
    rw (e, at) (value_is trail values positions h l (get_or values l.var Unset) lt refl)

-- the last literal goes, by what the arrays become
pub popped_assigned : (trail new_trail : List Lit) (values new_values : List Value) (positions : List ℕ) (l : Lit)
    → AreAssigned trail values positions → trail ≡ new_trail ++ l ∷ [] → new_values ≡ set values l.var Unset
    → AreAssigned new_trail new_values positions
popped_assigned trail new_trail values new_values positions l h e ev =
    rw ev (pop_assigned new_trail values positions l (rw e at h))

-- the same assignment with longer arrays, by what the arrays become
pub longer_positions : (trail : List Lit) (values : List Value) (positions longer : List ℕ) (n m : ℕ)
    → AreAssigned trail values positions → length values ≤ n → m ≡ length positions
    → longer ≡ take n positions ++ replicate (n - m) 0 → AreAssigned trail values longer
longer_positions trail values positions longer n m h le em e =
    let longs = h.long in
    let blanks : List ℕ = replicate (n - m) 0 in
    let count : length blanks ≡ n - m = length-replicate (n - m) 0 in
    let front : length (take n positions) ≡ min n (length positions) = length-take n positions in
    let long : length longer ≡ length (take n positions) + length blanks = ap length e
    ∙ length-append (take n positions) blanks in
    assigned_positions trail values positions longer h (omega (arith, long, count, front, em, longs))
    (λ k lt. ap (λ (xs : List ℕ). get_or xs k 0) e
    ∙ (get_or_append_left (take n positions) blanks 0 k (omega (arith, front, longs)) ∙ get_or-take n positions k 0
    (omega arith)))

pub longer_values : (trail : List Lit) (values longer : List Value) (positions : List ℕ) (n m : ℕ)
    → AreAssigned trail values positions → length values ≤ n → n ≤ length positions → m ≡ length values
    → longer ≡ take n values ++ replicate (n - m) Unset → AreAssigned trail longer positions
longer_values trail values longer positions n m h le in_positions em e = assigned_values trail values longer positions n
    h le in_positions (rw em at e)

-- a trail's form is that of its assignment, with the levels
pub trail_state : (t : TrailState) (a : AssignmentState) (starts : List ℕ) → t ≡ trail_of a starts
    → IsAssignmentState a → AreLevels starts (length a.lits) → IsTrailState t
trail_state t a starts e form levels = rw e (record {
  apart = form.apart;
  within = form.within;
  short = form.short;
  levels = levels;
})
