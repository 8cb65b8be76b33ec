-- The walk begins, passes an index, and replaces a literal by its reason.
use Rattle.std.proofs.Common.{◌≡◌, ◌≢◌, ℕ, ◌<◌, ◌≤◌, ◌+◌, ◌-◌, Bool, true, false, not, List, [], ◌∷◌, ◌++◌}
use Rattle.std.proofs.Common.{length, get_or, take}
use Rattle.std.proofs.Common.{arith, ap, sym, subst, ◌∙◌, refl, ⊎_elim, inl, inr, Ok, Err, Result, OnOk, reverse}
use Rattle.std.specs.Prelude.{◌⊎◌, ◌&&◌, Contains}
use Rattle.std.proofs.Math.ListN.{set, length-set}
use Rattle.std.proofs.lemmas.Bool.{cases_eq, false≢true}
use Rattle.std.proofs.lemmas.List.{reverse-append}
use Rattle.std.proofs.lemmas.List.Elements.{Contains-append_left}
use Rattle.lists.proofs.Membership.{Contains-pushed, Contains-nil, Contains-head, Contains-tail}
use Rattle.lists.proofs.Membership.{Contains-cons_cases}
use Rattle.plain_lits.specs.declared.lit.Lit.{Lit}
use Rattle.plain_lits.specs.Literals.{negation}
use Rattle.plain_lits.specs.HintCheck.{clause_at, IsNamed, Propagates}
use Rattle.plain_lits.specs.Trails.{VarsDiffer}
use Rattle.unit_propagate.specs.Search.{Search, IsSearch, IsReason, IsConflict}
use Rattle.clause_watches.proofs.Fronts.{pushed_cases, longer_front, from_front, consistent}
use Rattle.conflict_learn.specs.declared.workspace.Border.{Border}
use Rattle.conflict_learn.specs.Learning.{StandsAt}
use Rattle.conflict_learn.specs.Analyses.{Analysis, AreClear, IsCounted, IsMet, Meets, OthersOf, HasMetAll}
use Rattle.conflict_learn.specs.Analyses.{IsWalk, IsAt}
use Rattle.conflict_learn.specs.Analyses.{is_marked, is_kept, is_open, count_to}
use Rattle.conflict_learn.proofs.Counting.{count_up, count_some}
use Rattle.conflict_learn.proofs.Literally.{stands_same, stands_index, stands_contains}
use Rattle.conflict_learn.proofs.Literally.{stands_front, front_stands, but_not}
use Rattle.conflict_learn.proofs.Literally.{but_is, but_marked}
use Rattle.conflict_learn.proofs.Literally.{but_kept, stands_here}
use Rattle.conflict_learn.proofs.Meeting.{marked_else, marked_here, marked_read}
use Rattle.plain_lits.proofs.CheckingLemmas.{negation-negation, negation_same}
use Rattle.plain_lits.proofs.OneOutcome.{cases_lit}

-- an open literal whose negation is one of a clause's
abbrev pub HasOpen : List Lit → (ℕ → Bool) → Lit → Type 0
HasOpen lits marked l = (k : ℕ) × StandsAt lits k (negation l) × (marked k ≡ true)

-- hints that begin with a false clause
walk_begins : (clauses : List (List Lit)) (lits clause : List Lit) (index : ℕ) (marked : ℕ → Bool) (hint : ℕ)
    → IsNamed clauses hint
    → ((l : Lit) → Contains (clause_at clauses hint) l → Contains clause l ⊎ HasOpen lits marked l)
    → ((l : Lit) → Contains clause l → Contains (clause_at clauses hint) l)
    → ((k : ℕ) (l : Lit) → marked k ≡ true → StandsAt lits k (negation l) → Contains (clause_at clauses hint) l)
    → IsWalk clauses lits index clause marked (hint ∷ [])
walk_begins clauses lits clause index marked hint named met back open_back =
    let here : Contains (hint ∷ []) hint = Contains-head hint [] hint refl in
    let only : (x : ℕ) → Contains (hint ∷ []) x → hint ≡ x =
    λ x c. ⊎_elim (λ e. e) (λ none. absurd (Contains-nil x none)) (Contains-cons_cases hint [] x c) in
    record {
      leads = λ truths m c b place.
          let same : place + 1 - 1 ≡ place = omega arith in
          inl (
            record {
              named = named;
              all_false = record {
                each = λ l h. ⊎_elim (λ in_clause. c l in_clause)
                    (λ o. m o.0 (negation l) o.2 o.1) (met l h);
              };
            },
            ap (λ (n : ℕ). Ok n) same,
          );
      some = omega arith;
      used = λ x l h c. ⊎_elim (λ a. inl a) (λ o. inr (inl o))
          (met l (subst (λ n. Contains (clause_at clauses n) l) (sym (only x h)) c));
      kept_come = λ l c. (hint, here, back l c);
      open_come = λ k l m st. (hint, here, open_back k l m st);
    }

-- an index whose literal isn't open is passed
pub walk_past : (clauses : List (List Lit)) (lits clause : List Lit) (index : ℕ) (marked : ℕ → Bool) (hints : List ℕ)
    → IsWalk clauses lits (index + 1) clause marked hints → IsWalk clauses lits index clause marked hints
walk_past clauses lits clause index marked hints w = record {
  leads = λ truths m c b place. w.leads truths m c
      (λ l t. ⊎_elim (λ front. inl (longer_front index (index + 1) lits l (omega arith) front)) (λ kept. inr kept)
      (b l t)) place;
  some = w.some;
  used = w.used;
  kept_come = w.kept_come;
  open_come = w.open_come;
}

-- what an expansion changes: the literal of an index goes, and those of its reason come
pub record Expands (clauses : List (List Lit)) (lits : List Lit) (index id : ℕ) (l : Lit) (old new : List Lit)
    (was now : ℕ → Bool) : Type 0 where
  pub named : IsNamed clauses id
  pub here : StandsAt lits index l
  pub there : Contains (clause_at clauses id) l
  pub others : (x : Lit) → OthersOf (clause_at clauses id) l x → Contains (take index lits) (negation x)
  pub new_false : (x : Lit) → Contains new x → Contains lits (negation x)
  pub apart : (x : Lit) → Contains new x → negation x ≢ l
  pub stay : (x : Lit) → Contains old x → Contains new x
  pub back : (x : Lit) → Contains new x → Contains old x ⊎ OthersOf (clause_at clauses id) l x
  pub open_stay : (k : ℕ) → was k ≡ true → k ≢ index → now k ≡ true
  pub open_back : (k : ℕ) → now k ≡ true
      → (was k ≡ true) ⊎ ((x : Lit) × OthersOf (clause_at clauses id) l x × StandsAt lits k (negation x))
  pub met : (x : Lit) → OthersOf (clause_at clauses id) l x → Contains new x ⊎ HasOpen lits now x
  pub was_open : was index ≡ true

hint_leads : (clauses : List (List Lit)) (lits : List Lit) (index id : ℕ) (l : Lit) (old new : List Lit)
    (was now : ℕ → Bool) (hints : List ℕ) → VarsDiffer lits → Expands clauses lits index id l old new was now
    → IsWalk clauses lits (index + 1) old was hints → (truths : List Lit)
    → ((k : ℕ) (x : Lit) → now k ≡ true → StandsAt lits k x → Contains truths x)
    → ((x : Lit) → Contains new x → Contains truths (negation x))
    → ((x : Lit) → Contains truths x → Contains (take index lits) x ⊎ Contains new (negation x))
    → (place : ℕ) → Propagates negation clauses truths place (id ∷ hints) (Ok (place + length (id ∷ hints) - 1))
hint_leads clauses lits index id l old new was now hints differ e w truths m c b place =
    let all_true : (x : Lit) → Contains truths x → Contains lits x = λ x t. ⊎_elim
    (λ front. from_front index lits x front)
    (λ kept. subst (Contains lits) (negation-negation x) (e.new_false (negation x) kept))
    (b x t) in
    let rest = w.leads (truths ++ l ∷ [])
    (λ k x marked at. ⊎_elim
    (λ same. Contains-pushed truths l x (stands_same lits index l x e.here
    (subst (λ n. StandsAt lits n x) same at)))
    (λ ne. Contains-append_left truths (l ∷ []) x (m k x (e.open_stay k marked ne) at))
    (cases_eq k index))
    (λ x kept. Contains-append_left truths (l ∷ []) (negation x) (c x (e.stay x kept)))
    (λ x t. ⊎_elim
    (λ before. ⊎_elim
    (λ front. inl (longer_front index (index + 1) lits x (omega arith) front))
    (λ kept. ⊎_elim (λ o. inr o)
    (λ o. inl (longer_front index (index + 1) lits x (omega arith)
    (subst (Contains (take index lits)) (negation-negation x) (e.others (negation x) o))))
    (e.back (negation x) kept))
    (b x before))
    (λ same. inl (stands_front lits index (index + 1) x (subst (StandsAt lits index) same e.here) (omega arith)))
    (pushed_cases truths l x t))
    (place + 1) in
    let same : place + 1 + length hints - 1 ≡ place + length (id ∷ hints) - 1 = omega arith in
    inr (inl (
      l,
      record {
        named = e.named;
        unit = record {
          there = e.there;
          not_true = λ t. ⊎_elim
              (λ front. let f = front_stands lits index l front in
              let bad = stands_index lits f.0 index l differ f.1 e.here in
              let lt = f.2 in
              absurd (omega (arith, bad, lt)))
              (λ kept. absurd (e.apart (negation l) kept (negation-negation l)))
              (b l t);
          not_false = λ t. consistent lits l differ (stands_contains lits index l e.here) (all_true (negation l) t);
          others = λ x h ne. ⊎_elim (λ kept. c x kept) (λ o. m o.0 (negation x) o.2 o.1) (e.met x (h, ne));
        };
      },
      subst (λ (n : ℕ). Propagates negation clauses (truths ++ l ∷ []) (place + 1) hints (Ok n)) same rest,
    ))

pub walk_expands : (clauses : List (List Lit)) (lits : List Lit) (index id : ℕ) (l : Lit) (old new : List Lit)
    (was now : ℕ → Bool) (hints : List ℕ) → VarsDiffer lits → Expands clauses lits index id l old new was now
    → IsWalk clauses lits (index + 1) old was hints → IsWalk clauses lits index new now (id ∷ hints)
walk_expands clauses lits index id l old new was now hints differ e w =
    let here : Contains (id ∷ hints) id = Contains-head id hints id refl in
    let later : (x : ℕ) → Contains hints x → Contains (id ∷ hints) x = λ x c. Contains-tail id hints x c in
    let Used : Lit → Type 0 = λ x. (other : ℕ) × Contains (id ∷ hints) other
    × Contains (clause_at clauses other) (negation x) in
    record {
      leads = λ truths m c b place.
          hint_leads clauses lits index id l old new was now hints differ e w truths m c b place;
      some = omega arith;
      used = λ hint x h c. ⊎_elim
          (λ same.
          let in_reason : Contains (clause_at clauses id) x =
          subst (λ n. Contains (clause_at clauses n) x) (sym same) c in
          ⊎_elim
          (λ is. let o = w.open_come index (negation l) e.was_open
          (subst (StandsAt lits index) (sym (negation-negation l)) e.here) in
          inr (inr (
            o.0,
            later o.0 o.1,
            subst (λ (y : Lit). Contains (clause_at clauses o.0) (negation y)) (sym is) o.2,
          )))
          (λ ne. ⊎_elim (λ kept. inl kept) (λ o. inr (inl o)) (e.met x (in_reason, ne)))
          (cases_lit x l))
          (λ old_hint. ⊎_elim
          (λ kept. inl (e.stay x kept))
          (λ rest. ⊎_elim
          (λ o. ⊎_elim
          (λ same. inr (inr (
            id,
            here,
            subst (Contains (clause_at clauses id))
                (stands_same lits index l (negation x) e.here
                (subst (λ n. StandsAt lits n (negation x)) same o.1)) e.there,
          )))
          (λ ne. inr (inl (o.0, o.1, e.open_stay o.0 o.2 ne)))
          (cases_eq o.0 index))
          (λ o. inr (inr (o.0, later o.0 o.1, o.2)))
          rest)
          (w.used hint x old_hint c))
          (Contains-cons_cases id hints hint h);
      kept_come = λ x c. ⊎_elim
          (λ before. let o = w.kept_come x before in (o.0, later o.0 o.1, o.2))
          (λ o. (id, here, o.0))
          (e.back x c);
      open_come = λ k x marked at. ⊎_elim
          (λ before. let o = w.open_come k x before at in (o.0, later o.0 o.1, o.2))
          (λ o. (
            id,
            here,
            subst (Contains (clause_at clauses id))
                (negation_same o.0 x (stands_same lits k (negation o.0) (negation x) o.2 at)) o.1.0,
          ))
          (e.open_back k marked);
    }

-- the first hint is the conflict's
pub at_begun : (s : Search) (border : Border) (mid new : Analysis) (conflict : ℕ) (but : Lit) → IsSearch s
    → IsConflict s.clauses s.lits conflict → but.var ≡ s.vars → mid.clause ≡ [] → AreClear mid.marks
    → mid.hints ≡ conflict ∷ [] → IsCounted s border new
    → Meets s border mid new (OthersOf (clause_at s.clauses conflict) but)
    → IsAt s border new (length s.lits) × HasMetAll s border new (clause_at s.clauses conflict)
    × (new.hints ≡ conflict ∷ [])
at_begun s border mid new conflict but form bad var empty clear hints counted m =
    let clause = clause_at s.clauses conflict in
    let marked = is_open border s.reasons new.marks in
    let other : (l : Lit) → Contains clause l → OthersOf clause but l = λ l c. (
      c,
      λ e.
          let known = form.within (negation l) (bad.all_false.each l c) in
          let same : l.var ≡ but.var = ap (λ (x : Lit). x.var) e in
          absurd (omega (arith, known, same, var)),
    ) in
    let met : (l : Lit) → Contains clause l → IsMet s border new l = λ l c. m.met l (other l c) in
    let new_hints : new.hints ≡ conflict ∷ [] = m.hints_same ∙ hints in (
      record {
        counted = counted;
        within = omega arith;
        below = λ k e. counted.within k (but_not _ _ e).0;
        walk = subst (λ (hs : List ℕ). IsWalk s.clauses s.lits (length s.lits) new.clause marked hs)
            (sym (ap reverse new_hints))
            (walk_begins s.clauses s.lits new.clause (length s.lits) marked conflict bad.named met
            (λ l c. ⊎_elim (λ old. absurd (Contains-nil l (subst (λ (xs : List Lit). Contains xs l) empty old)))
            (λ o. o.0) (m.clause_back l c))
            (λ k l e st. ⊎_elim
            (λ old. absurd (false≢true (sym (clear.each k) ∙ old)))
            (λ o. subst (Contains clause) (negation_same o.0 l
            (stands_same s.lits k (negation o.0) (negation l) o.2 st)) o.1.0)
            (m.back k (but_not _ _ e).0)));
      },
      record { each = met },
      new_hints,
    )

pub at_past : (s : Search) (border : Border) (a : Analysis) (index : ℕ) → IsAt s border a (index + 1)
    → is_open border s.reasons a.marks index ≡ false → IsAt s border a index
at_past s border a index at closed = record {
  counted = at.counted;
  within = let w = at.within in omega arith;
  below = λ k e. let lt = at.below k e in
      ⊎_elim (λ same. absurd (false≢true (sym closed ∙ (ap (is_open border s.reasons a.marks) (sym same) ∙ e))))
      (λ ne. omega arith) (cases_eq k index);
  walk = walk_past s.clauses s.lits a.clause index (is_open border s.reasons a.marks) (reverse a.hints) at.walk;
}

-- an open literal is replaced by its reason, whose literals are still to be met
abbrev pub closed : Analysis → ℕ → List ℕ → Analysis
closed a index hints = record a { marks = set a.marks index false; open_count = a.open_count - 1; hints = hints }

pub closed_counted : (s : Search) (border : Border) (a : Analysis) (index : ℕ) (hints : List ℕ) → IsCounted s border a
    → is_open border s.reasons a.marks index ≡ true → IsCounted s border (closed a index hints)
closed_counted s border a index hints h is =
    let w = but_not _ _ is in
    let long = h.long in
    let lt : index < length a.marks = let in_lits = h.within index w.0 in omega arith in
    let f = is_open border s.reasons (set a.marks index false) in
    let g = is_open border s.reasons a.marks in
    let up = count_up f g index (length a.marks) lt
    (but_marked _ (is_kept border s.reasons index) (marked_here a.marks index false lt)) is
    (λ k ne. ap (λ b. b && not (is_kept border s.reasons k)) (marked_else a.marks index k false ne)) in
    let old : (k : ℕ) → is_marked (set a.marks index false) k ≡ true → is_marked a.marks k ≡ true = λ k e. ⊎_elim
    (λ same. absurd (false≢true (sym (marked_here a.marks index false lt)
    ∙ (ap (is_marked (set a.marks index false)) (sym same) ∙ e))))
    (λ ne. sym (marked_else a.marks index k false ne) ∙ e)
    (cases_eq k index) in
    record {
      long = omega (arith, length-set a.marks index false);
      count = let c = h.count in
          let size = ap (count_to f) (length-set a.marks index false) in
          omega (arith, c, up, size);
      within = λ k e. h.within k (old k e);
      in_clause = λ k l e q st. h.in_clause k l (old k e) q st;
      kept = h.kept;
    }

below_or : (k n : ℕ) → k < n + 1 → (k < n) ⊎ (k ≡ n)
below_or k n lt = ⊎_elim (λ e. inr e) (λ ne. inl (omega arith)) (cases_eq k n)

pub at_expanded : (s : Search) (border : Border) (a new : Analysis) (index id : ℕ) (l : Lit) (hints : List ℕ)
    → IsSearch s → IsAt s border a (index + 1) → is_open border s.reasons a.marks index ≡ true
    → StandsAt s.lits index l → IsReason s.clauses s.lits index id → hints ≡ a.hints ++ id ∷ []
    → IsCounted s border new
    → Meets s border (closed a index hints) new (OthersOf (clause_at s.clauses id) l) → IsAt s border new index
at_expanded s border a new index id l hints form at is here reason hints_are counted m =
    let was = is_open border s.reasons a.marks in
    let now = is_open border s.reasons new.marks in
    let long = at.counted.long in
    let parts = but_not _ _ is in
    let lt : index < length a.marks = let in_lits = here.within in omega arith in
    let clause = clause_at s.clauses id in
    let others : (x : Lit) → OthersOf clause l x → Contains (take index s.lits) (negation x) =
    λ x o. reason.others x l o.0 (λ e. o.1 (e ∙ here.is l)) in
    let cleared : (k : ℕ) → is_marked (set a.marks index false) k ≡ true
    → (is_marked a.marks k ≡ true) × (k ≢ index) = λ k e. ⊎_elim
    (λ same. absurd (false≢true (sym (marked_here a.marks index false lt)
    ∙ (ap (is_marked (set a.marks index false)) (sym same) ∙ e))))
    (λ ne. (sym (marked_else a.marks index k false ne) ∙ e, ne))
    (cases_eq k index) in
    record {
      counted = counted;
      within = let w = at.within in omega arith;
      below = λ k e. let q = but_not _ _ e in ⊎_elim
          (λ old. let c = cleared k old in
          let low = at.below k (but_is _ _ c.0 q.1) in
          let ne = c.1 in
          ⊎_elim (λ less. less) (λ same. absurd (ne same)) (below_or k index low))
          (λ o. let f = front_stands s.lits index (negation o.0) (others o.0 o.1) in
          let same = stands_index s.lits k f.0 (negation o.0) form.apart o.2 f.1 in
          let low = f.2 in
          omega (arith, same, low))
          (m.back k q.0);
      walk = subst (λ (hs : List ℕ). IsWalk s.clauses s.lits index new.clause now hs)
          (sym (ap reverse (m.hints_same ∙ hints_are) ∙ reverse-append a.hints (id ∷ [])))
          (walk_expands s.clauses s.lits index id l a.clause new.clause was now (reverse a.hints) form.apart
          (record {
            named = reason.named;
            here = here;
            there = subst (Contains clause) (here.is l) (reason.there l);
            others = others;
            new_false = λ x c. let k = counted.kept x c in stands_contains s.lits k.0 (negation x) k.1;
            apart = λ x c e. let k = counted.kept x c in
                let same = stands_index s.lits k.0 index l form.apart
                (subst (StandsAt s.lits k.0) e k.1) here in
                false≢true (sym parts.1 ∙ (ap (is_kept border s.reasons) (sym same) ∙ k.2));
            stay = m.clause_stay;
            back = m.clause_back;
            open_stay = λ k e ne. let q = but_not _ _ e in
                but_is _ _ (m.stay k (marked_else a.marks index k false ne ∙ q.0)) q.1;
            open_back = λ k e. let q = but_not _ _ e in ⊎_elim
                (λ old. inl (but_is _ _ (cleared k old).0 q.1))
                (λ o. inr o)
                (m.back k q.0);
            met = m.met;
            was_open = is;
          })
          at.walk);
    }

pub both_ok : {T E : Type 0} (r : Result T E) (P Q R : Type 0) → OnOk r P → OnOk r Q → (P → Q → R) → OnOk r R
both_ok (Ok x) P Q R p q f = f p q
both_ok (Err e) P Q R p q f = tt

pub open_some : (s : Search) (border : Border) (a : Analysis) (k : ℕ) → IsCounted s border a
    → is_open border s.reasons a.marks k ≡ true → 1 ≤ a.open_count
open_some s border a k h e =
    let long = h.long in
    let within = h.within k (but_not _ _ e).0 in
    let lt : k < length a.marks = omega arith in
    let some = count_some (is_open border s.reasons a.marks) k (length a.marks) lt e in
    let count = h.count in
    omega (arith, some, count)

-- the reason of a literal, which stands at an index
pub reason_at : (s : Search) (index id : ℕ) (lits : List Lit) (d : Lit) → IsSearch s → index < length s.lits
    → lits ≡ s.lits → id ≡ get_or s.reasons index 0 → get_or s.reasons index 0 ≢ 0
    → IsReason s.clauses s.lits index id × StandsAt s.lits index (get_or lits index d)
reason_at s index id lits d form lt same is some = (
  subst (IsReason s.clauses s.lits index) (sym is) (form.reasons index lt some),
  subst (λ (xs : List Lit). StandsAt s.lits index (get_or xs index d)) (sym same) (stands_here s.lits index d lt),
)

pub others_false : (s : Search) (index id : ℕ) (l : Lit) → IsReason s.clauses s.lits index id
    → StandsAt s.lits index l → (x : Lit) → OthersOf (clause_at s.clauses id) l x → Contains s.lits (negation x)
others_false s index id l reason here x o =
    from_front index s.lits (negation x) (reason.others x l o.0 (λ e. o.1 (e ∙ here.is l)))

-- a literal that isn't marked is passed, and one that is kept
pub at_unmarked : (s : Search) (border : Border) (a : Analysis) (index : ℕ) (b : Bool) → IsAt s border a (index + 1)
    → b ≡ get_or a.marks index b → b ≡ false → IsAt s border a index
at_unmarked s border a index b at read e =
    let w = at.within in
    let long = at.counted.long in
    at_past s border a index at (but_marked _ (is_kept border s.reasons index)
    (marked_read a.marks index b false (omega arith) read e))

pub at_kept : (s : Search) (border : Border) (a : Analysis) (index : ℕ) (b : Bool) → IsAt s border a (index + 1)
    → b ≡ is_kept border s.reasons index → b ≡ true → IsAt s border a index
at_kept s border a index b at is e =
    at_past s border a index at (but_kept (is_marked a.marks index) _ (sym is ∙ e))

pub open_if : (s : Search) (border : Border) (a : Analysis) (index : ℕ) (b c : Bool) → IsAt s border a (index + 1)
    → b ≡ get_or a.marks index b → b ≡ true → c ≡ is_kept border s.reasons index → c ≡ false
    → is_open border s.reasons a.marks index ≡ true
open_if s border a index b c at read e is kept =
    let w = at.within in
    let long = at.counted.long in
    but_is _ _ (marked_read a.marks index b true (omega arith) read e) (sym is ∙ kept)
