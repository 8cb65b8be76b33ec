-- The steps of the check: what one more literal or hint makes of what was found so far.
use Rattle.std.proofs.Common.{◌≡◌, ◌≢◌, ℕ, ◌<◌, ◌≤◌, ◌+◌, ◌-◌, List, [], ◌∷◌, ◌++◌, length, get_or, arith, ap}
use Rattle.std.proofs.Common.{sym, ◌∙◌, refl, inl, inr, ⊎_elim, map, Ok, Err, Result, Bool, true, false, not}
use Rattle.std.proofs.Common.{take, drop, subst}
use Rattle.std.specs.Prelude.{Contains, ◌⊎◌, Option, Some, None}
use Rattle.std.proofs.lemmas.List.{take-append-drop, take_more, get_or_default}
use Rattle.std.proofs.lemmas.List.Elements.{Contains-append_left, Contains-push_cases}
use Rattle.lists.proofs.Membership.{Contains-nil, Contains-pushed}
use Rattle.plain_lits.specs.declared.lit.Lit.{Lit}
use Rattle.plain_lits.specs.declared.value.Value.TheVariants.{True, False, Unset}
use Rattle.plain_lits.specs.Literals.{negation}
use Rattle.plain_lits.specs.Values.{IsValueIn}
use Rattle.plain_lits.specs.HintCheck.{clause_at, IsNamed, IsFalsified, IsUnit, Propagates, IsTautology, Checks}
use Rattle.plain_lits.proofs.OneOutcome.{cases_lit}
use Rattle.plain_lits.proofs.LitOrder.{lit_eq, lit_eq_itself, same_from_eq}
use Rattle.std.proofs.lemmas.Bool.{false≢true}
use Rattle.plain_lits.proofs.HintCheckLemmas.{propagates_same_set}
use Rattle.plain_lits.specs.Checking.{IsSatisfiedOrOpen, AssumesFalse, BecomesFalse}
use Rattle.lists.proofs.Images.{image_there, image_from}
use Rattle.lists.proofs.TruthValues.{not_not, not_itself}
use Rattle.lists.proofs.Fronts.{drop_next}

-- what a look at a clause's first literals found: all are false, or all but an unset one
abbrev pub IsSoFar : List Lit → List Lit → Option Lit → Type 0
IsSoFar truths seen None = IsFalsified negation truths seen
IsSoFar truths seen (Some unset) = IsUnit negation truths seen unset

pub so_far_none : (truths : List Lit) → IsSoFar truths [] None
so_far_none truths = record { each = λ l c. absurd (Contains-nil l c) }

-- one more literal, which is false
pub so_far_false : (truths seen : List Lit) (found : Option Lit) (x : Lit) → IsValueIn truths x False
    → IsSoFar truths seen found → IsSoFar truths (seen ++ x ∷ []) found
so_far_false truths seen None x v h = record {
  each = λ l c. ⊎_elim (λ old. h.each l old) (λ e. rw (← e) v.0) (Contains-push_cases seen x l c);
}
so_far_false truths seen (Some u) x v h = record {
  there = Contains-append_left seen (x ∷ []) u h.there;
  not_true = h.not_true;
  not_false = h.not_false;
  others = λ l c ne. ⊎_elim (λ old. h.others l old ne) (λ e. rw (← e) v.0) (Contains-push_cases seen x l c);
}

-- one more literal, which is unset as none before
pub so_far_unset : (truths seen : List Lit) (x : Lit) → IsValueIn truths x Unset → IsSoFar truths seen None
    → IsSoFar truths (seen ++ x ∷ []) (Some x)
so_far_unset truths seen x v h = record {
  there = Contains-pushed seen x x refl;
  not_true = v.0;
  not_false = v.1;
  others = λ l c ne. ⊎_elim (λ old. h.each l old) (λ e. absurd (ne (sym e))) (Contains-push_cases seen x l c);
}

-- one more literal, which is the unset one again
pub so_far_again : (truths seen : List Lit) (u x : Lit) → u ≡ x → IsSoFar truths seen (Some u)
    → IsSoFar truths (seen ++ x ∷ []) (Some u)
so_far_again truths seen u x same h = record {
  there = Contains-append_left seen (x ∷ []) u h.there;
  not_true = h.not_true;
  not_false = h.not_false;
  others = λ l c ne. ⊎_elim (λ old. h.others l old ne) (λ e. absurd (ne (sym (same ∙ e))))
      (Contains-push_cases seen x l c);
}

-- a clause with a true literal is neither false nor unit
pub neither_true : (truths clause : List Lit) (x : Lit) → Contains clause x → IsValueIn truths x True
    → IsSatisfiedOrOpen truths clause
neither_true truths clause x c v = record {
  not_false = λ f. v.1 (f.each x c);
  not_unit = λ u f. ⊎_elim (λ e. f.not_true (rw e at v.0)) (λ ne. v.1 (f.others x c ne)) (cases_lit x u);
}

-- nor is one with two unset literals
pub neither_two : (truths clause : List Lit) (x y : Lit) → Contains clause x → Contains clause y → x ≢ y
    → (Contains truths (negation x) → ⊥) → (Contains truths (negation y) → ⊥) → IsSatisfiedOrOpen truths clause
neither_two truths clause x y cx cy apart vx vy = record {
  not_false = λ f. vx (f.each x cx);
  not_unit = λ u f. ⊎_elim (λ e. ⊎_elim (λ e2. apart (e ∙ sym e2)) (λ ne. vy (f.others y cy ne)) (cases_lit y u))
      (λ ne. vx (f.others x cx ne)) (cases_lit x u);
}

-- the first literals of a clause are its own
pub Contains-from_front : (clause : List Lit) (i : ℕ) (l : Lit) → Contains (take i clause) l
    → Contains clause l
Contains-from_front clause i l c = let e = take-append-drop i clause in
    rw (← e) (Contains-append_left (take i clause) (drop i clause) l c)

abbrev lit_of : ℕ → Bool → Lit
lit_of v p = record { var = v; positive = p }

pub negation-negation : (l : Lit) → negation (negation l) ≡ l
negation-negation l = ap (λ p. lit_of l.var p) (not_not l.positive)

pub negation_same : (a b : Lit) → negation a ≡ negation b → a ≡ b
negation_same a b e = sym (negation-negation a) ∙ (ap negation e ∙ negation-negation b)

pub assumes_none : AssumesFalse [] []
assumes_none = record {
  plain = λ t. Contains-nil t.0 t.1;
  there = λ l c. absurd (Contains-nil l c);
  back = λ l c. absurd (Contains-nil l c);
}

-- one more literal, which is false already
pub assumes_again : (seen truths : List Lit) (x : Lit) → Contains truths (negation x)
    → AssumesFalse seen truths → AssumesFalse (seen ++ x ∷ []) truths
assumes_again seen truths x low h =
    let w = image_from negation seen (negation x) (h.there (negation x) low) in
    let old : Contains seen x = rw (negation_same w.0 x w.2) at w.1 in
    let known = λ (l : Lit) (c : Contains (seen ++ x ∷ []) l). let k : Contains seen l =
    ⊎_elim (λ k. k) (λ e. rw e at old) (Contains-push_cases seen x l c) in k in
    record {
      plain = λ t. h.plain (t.0, known t.0 t.1, known (negation t.0) t.2);
      there = λ l c. let m = image_from negation seen l (h.there l c) in
          rw (← m.2) (image_there negation (seen ++ x ∷ []) m.0 (Contains-append_left seen (x ∷ []) m.0 m.1));
      back = λ l c. let m = image_from negation (seen ++ x ∷ []) l c in
          h.back l (rw (← m.2) (image_there negation seen m.0 (known m.0 m.1)));
    }

-- one more literal, which becomes false
pub assumes_new : (seen truths : List Lit) (x : Lit) → (Contains truths x → ⊥) → AssumesFalse seen truths
    → AssumesFalse (seen ++ x ∷ []) (truths ++ negation x ∷ [])
assumes_new seen truths x free h = record {
  plain = λ t. ⊎_elim
      (λ old. ⊎_elim
      (λ c. h.plain (t.0, old, c))
      (λ e. free (h.back x (rw e (image_there negation seen t.0 old))))
      (Contains-push_cases seen x (negation t.0) t.2))
      (λ e. ⊎_elim
      (λ c. free (h.back x (let m = image_there negation seen (negation t.0) c in
      rw (negation-negation t.0, ← e) at m)))
      (λ e2. let bad : x.positive ≡ not x.positive = ap (λ (l : Lit). l.positive) (e2 ∙ ap negation (sym e)) in
      not_itself x.positive bad)
      (Contains-push_cases seen x (negation t.0) t.2))
      (Contains-push_cases seen x t.0 t.1);
  there = λ l c. ⊎_elim
      (λ old. let m = image_from negation seen l (h.there l old) in
      rw (← m.2) (image_there negation (seen ++ x ∷ []) m.0 (Contains-append_left seen (x ∷ []) m.0 m.1)))
      (λ e. rw (← e) (image_there negation (seen ++ x ∷ []) x (Contains-pushed seen x x refl)))
      (Contains-push_cases truths (negation x) l c);
  back = λ l c.
      let m = image_from negation (seen ++ x ∷ []) l c in
      ⊎_elim
      (λ old. Contains-append_left truths (negation x ∷ []) l
      (h.back l (rw (← m.2) (image_there negation seen m.0 old))))
      (λ e. Contains-pushed truths (negation x) l (ap negation e ∙ m.2))
      (Contains-push_cases seen x m.0 m.1);
}

-- a literal whose negation stands before it
pub assumes_clash : (clause seen truths : List Lit) (x : Lit)
    → ((l : Lit) → Contains seen l → Contains clause l) → Contains clause x → Contains truths x
    → AssumesFalse seen truths → IsTautology negation clause
assumes_clash clause seen truths x within c high h =
    let m = image_from negation seen x (h.there x high) in
    (m.0, within m.0 m.1, rw m.2 c)

-- the whole check, once its literals are taken to be false
pub checks_along : (steps : List (List Lit)) (clause truths : List Lit) (hints : List ℕ) (outcome : Result ℕ ℕ)
    → AssumesFalse clause truths → Propagates negation steps truths 1 hints outcome
    → Checks negation steps clause hints outcome
checks_along steps clause truths hints outcome h w =
    inr (
      h.plain,
      propagates_same_set negation steps truths (map negation clause) 1 hints outcome
          (record { there = h.there; back = h.back }) w,
    )

-- an item of a loop over a clause, as a member at its place
pub record IsItem (clause : List Lit) (i : ℕ) (x : Lit) : Type 0 where
  pub within : i < length clause
  pub item : get_or clause i x ≡ x

pub item_from : (clause : List Lit) (i : ℕ) (x r : Lit) → i < length clause → r ≡ get_or clause i r → x ≡ r
    → IsItem clause i x
item_from clause i x r lt e same = record { within = lt; item = rw same (sym e) }

pub item_read : (clause : List Lit) (i : ℕ) (d : Lit) → i < length clause
    → IsItem clause i (get_or clause i d)
item_read clause i d lt = record { within = lt; item = get_or_default clause i (get_or clause i d) d lt }

pub item_member : (clause : List Lit) (i : ℕ) (x : Lit) → IsItem clause i x → Contains clause x
item_member clause i x h = (i, h.within, h.item)

front_more : (clause : List Lit) (i : ℕ) (x : Lit) → IsItem clause i x
    → take (i + 1) clause ≡ take i clause ++ x ∷ []
front_more clause i x h = take_more clause i x h.within ∙ ap (λ y. take i clause ++ y ∷ []) h.item

not_same : (a b : Lit) → lit_eq a b ≡ false → a ≢ b
not_same a b e same = false≢true (sym e ∙ (ap (λ x. lit_eq a x) (sym same) ∙ lit_eq_itself a))

-- the steps of a look at a clause
pub status_false : (truths clause : List Lit) (i : ℕ) (found new : Option Lit) (x : Lit) → IsItem clause i x
    → new ≡ found → IsValueIn truths x False → IsSoFar truths (take i clause) found
    → IsSoFar truths (take (i + 1) clause) new
status_false truths clause i found new x item e v h = rw (front_more clause i x item, e)
    (so_far_false truths (take i clause) found x v h)

pub status_unset : (truths clause : List Lit) (i : ℕ) (found new : Option Lit) (x : Lit) → IsItem clause i x
    → found ≡ None → new ≡ Some x → IsValueIn truths x Unset → IsSoFar truths (take i clause) found
    → IsSoFar truths (take (i + 1) clause) new
status_unset truths clause i found new x item none e v h = rw (front_more clause i x item, e)
    (so_far_unset truths (take i clause) x v (rw none at h))

pub status_again : (truths clause : List Lit) (i : ℕ) (found new : Option Lit) (x u : Lit) → IsItem clause i x
    → found ≡ Some u → new ≡ found → lit_eq u x ≡ true → IsSoFar truths (take i clause) found
    → IsSoFar truths (take (i + 1) clause) new
status_again truths clause i found new x u item some_ e same h = rw (front_more clause i x item, e, some_)
    (so_far_again truths (take i clause) u x (same_from_eq u x same) (rw some_ at h))

pub status_two : (truths clause : List Lit) (i : ℕ) (found : Option Lit) (x u : Lit) → IsItem clause i x
    → found ≡ Some u → lit_eq u x ≡ false → IsValueIn truths x Unset → IsSoFar truths (take i clause) found
    → IsSatisfiedOrOpen truths clause
status_two truths clause i found x u item some_ apart v h =
    let unit : IsUnit negation truths (take i clause) u = rw some_ at h in
    neither_two truths clause u x (Contains-from_front clause i u unit.there) (item_member clause i x item)
    (not_same u x apart) unit.not_false v.1

-- the step of taking literals to be false
pub assume_more : (clause old new : List Lit) (i : ℕ) (x : Lit) → IsItem clause i x → BecomesFalse old new x
    → AssumesFalse (take i clause) old → AssumesFalse (take (i + 1) clause) new
assume_more clause old new i x item step h =
    rw (front_more clause i x item) (⊎_elim
    (λ s. rw s.1 (assumes_again (take i clause) old x s.0 h))
    (λ s. rw s.1 (assumes_new (take i clause) old x s.0 h)) step)

pub assume_clash : (clause old : List Lit) (i : ℕ) (x : Lit) → IsItem clause i x → Contains old x
    → AssumesFalse (take i clause) old → IsTautology negation clause
assume_clash clause old i x item high h = assumes_clash clause (take i clause) old x (Contains-from_front clause i)
    (item_member clause i x item) high h

-- the hint at a place of the list names a step, which has this clause
pub record IsHintAt (steps : List (List Lit)) (hints : List ℕ) (at number : ℕ)
    (clause : List Lit) : Type 0 where
  pub within : at < length hints
  pub is_number : get_or hints at 0 ≡ number
  pub named : IsNamed steps number
  pub is_clause : clause ≡ clause_at steps number

pub hint_from : (steps : List (List Lit)) (hints : List ℕ) (at number r : ℕ) (clause : List Lit)
    → at < length hints → r ≡ get_or hints at r → number ≡ r → 0 < number → number ≤ length steps
    → clause ≡ get_or steps (number - 1) [] → IsHintAt steps hints at number clause
hint_from steps hints at number r clause lt e same pos le row = record {
  within = lt;
  is_number = get_or_default hints at 0 r lt ∙ (sym e ∙ sym same);
  named = record { from_one = pos; within = le };
  is_clause = row;
}

-- the steps of looking at hints in turn
pub along_false : (steps : List (List Lit)) (truths : List Lit) (hints : List ℕ) (at number : ℕ) (clause : List Lit)
    → IsHintAt steps hints at number clause → IsFalsified negation truths clause
    → Propagates negation steps truths (at + 1) (drop at hints) (Ok (at + 1))
along_false steps truths hints at number clause h f =
    rw (drop_next hints at h.within, h.is_number) (inl (record { named = h.named; all_false = rw h.is_clause at f }, refl))

pub along_unit : (steps : List (List Lit)) (truths : List Lit) (hints : List ℕ) (at number : ℕ) (clause : List Lit)
    (u : Lit) (outcome : Result ℕ ℕ)
    → IsHintAt steps hints at number clause → IsUnit negation truths clause u
    → Propagates negation steps (truths ++ u ∷ []) (at + 1 + 1) (drop (at + 1) hints) outcome
    → Propagates negation steps truths (at + 1) (drop at hints) outcome
along_unit steps truths hints at number clause u outcome h f w =
    rw (drop_next hints at h.within, h.is_number)
    (inr (inl (u, record { named = h.named; unit = rw h.is_clause at f }, w)))

pub along_other : (steps : List (List Lit)) (truths : List Lit) (hints : List ℕ) (at number : ℕ) (clause : List Lit)
    → IsHintAt steps hints at number clause → IsSatisfiedOrOpen truths clause
    → Propagates negation steps truths (at + 1) (drop at hints) (Err (at + 1))
along_other steps truths hints at number clause h f =
    let n : IsSatisfiedOrOpen truths (clause_at steps number) = rw h.is_clause at f in
    rw (drop_next hints at h.within, h.is_number) (inr (inr (
      record {
        not_false = λ g. n.not_false g.all_false;
        not_unit = λ u g. n.not_unit u g.unit;
      },
      refl,
    )))

-- a hint that names no step
pub along_unnamed : (steps : List (List Lit)) (truths : List Lit) (hints : List ℕ) (at r : ℕ)
    → at < length hints → r ≡ get_or hints at r → (r ≡ 0) ⊎ (length steps < r)
    → Propagates negation steps truths (at + 1) (drop at hints) (Err (at + 1))
along_unnamed steps truths hints at r lt e bad =
    let number : get_or hints at 0 ≡ r = get_or_default hints at 0 r lt ∙ sym e in
    let none = λ (n : IsNamed steps r). let low = n.from_one in let high = n.within in let bot : ⊥ =
    ⊎_elim (λ z. omega (arith, z)) (λ out_. omega (arith, out_)) bad in bot in
    rw (drop_next hints at lt, number)
    (inr (inr (record { not_false = λ g. none g.named; not_unit = λ u g. none g.named }, refl)))

-- a member of a list of clauses, by its place
pub clause_member : (steps : List (List Lit)) (k : ℕ) (row : List Lit) → k < length steps
    → row ≡ get_or steps k [] → Contains steps row
clause_member steps k row lt e = (k, lt, get_or_default steps k row [] lt ∙ sym e)

-- what holds of a clause's first literals, with one more
pub front_all : (P : Lit → Type 0) (clause : List Lit) (i : ℕ) (d : Lit) → i < length clause
    → ((l : Lit) → Contains (take i clause) l → P l) → P (get_or clause i d) → (l : Lit)
    → Contains (take (i + 1) clause) l → P l
front_all P clause i d lt all here l c =
    ⊎_elim (λ old. all l old) (λ (e : get_or clause i d ≡ l). subst P e here)
    (Contains-push_cases (take i clause) (get_or clause i d) l (rw (take_more clause i d lt) at c))
