-- The clause of the first implication point: at which levels it is unit, and that it is new.
use Rattle.std.proofs.Common.{◌≡◌, ◌≢◌, ℕ, ◌<◌, ◌≤◌, ◌-◌, List, [], ◌∷◌, ◌++◌, length}
use Rattle.std.proofs.Common.{get_or, take, reverse}
use Rattle.std.proofs.Common.{arith, ap, sym, subst, ◌∙◌, ⊎_elim, inl, inr}
use Rattle.std.specs.Prelude.{◌⊎◌, Contains}
use Rattle.std.proofs.lemmas.Bool.{cases_lt, cases_eq, ltb-true, ltb-false}
use Rattle.lists.proofs.Membership.{Contains-nil, Contains-head, Contains-tail, Contains-cons_cases}
use Rattle.plain_lits.specs.declared.lit.Lit.{Lit}
use Rattle.plain_lits.specs.Literals.{negation, IsClauseOf}
use Rattle.plain_lits.specs.HintCheck.{clause_at, IsTautology}
use Rattle.plain_lits.specs.Trails.{VarsDiffer}
use Rattle.unit_propagate.specs.Search.{Search, IsSearch, IsConflict}
use Rattle.clause_watches.proofs.Fronts.{longer_front, from_front, consistent}
use Rattle.conflict_learn.specs.declared.workspace.Border.TheVariants.{Below}
use Rattle.conflict_learn.specs.Learning.{StandsAt, IsDecided, IsSettled, IsLearned, IsNew, IsUnitFrom}
use Rattle.conflict_learn.specs.Learning.{IsOpenBelow}
use Rattle.conflict_learn.specs.Learning.{last_start}
use Rattle.conflict_learn.specs.Analyses.{Analysis, IsAt, IsFirstUip, IsReach, IsLevelOf, HasMetAll}
use Rattle.conflict_learn.proofs.Literally.{stands_same, stands_index, stands_contains}
use Rattle.conflict_learn.proofs.Literally.{stands_front, front_stands, stands_here, but_not}
use Rattle.conflict_learn.proofs.Ending.{concluded, concluded_false, concludes_uip, settled_open}
use Rattle.plain_lits.proofs.CheckingLemmas.{negation-negation, negation_same}
use Rattle.plain_lits.proofs.OneOutcome.{cases_lit}

-- a clause with one literal that isn't false in a front, where each other literal is false in a part of the front
pub record HasPoint (lits clause : List Lit) (start index : ℕ) (u : Lit) : Type 0 where
  pub there : Contains clause u
  pub stands : StandsAt lits index (negation u)
  pub late : start ≤ index
  pub others : (l : Lit) → Contains clause l → l ≢ u → Contains (take start lits) (negation l)
  pub plain : IsTautology negation clause → ⊥

-- before its index the literal has no value
point_free : (lits clause : List Lit) (start index n : ℕ) (u : Lit) → VarsDiffer lits
    → HasPoint lits clause start index u → n ≤ index → Contains (take n lits) (negation u) → ⊥
point_free lits clause start index n u differ h le c =
    let f = front_stands lits n (negation u) c in
    let same = stands_index lits f.0 index (negation u) differ f.1 h.stands in
    let lt = f.2 in
    omega (arith, same, lt, le)

point_unset : (lits clause : List Lit) (start index n : ℕ) (u : Lit) → VarsDiffer lits
    → HasPoint lits clause start index u → Contains (take n lits) u → ⊥
point_unset lits clause start index n u differ h c =
    consistent lits u differ (from_front n lits u c) (stands_contains lits index (negation u) h.stands)

nonzero : (n : ℕ) → n ≢ 0 → 0 < n
nonzero n ne = ⊎_elim (λ lt. lt) (λ le. let e : n ≡ 0 = omega arith in absurd (ne e)) (cases_lt 0 n)

-- whether a list holds a literal is decided
contains_decided : (xs : List Lit) (l : Lit) → Contains xs l ⊎ (Contains xs l → ⊥)
contains_decided [] l = inr (Contains-nil l)
contains_decided (x ∷ xs) l =
    ⊎_elim (λ e. inl (Contains-head x xs l e))
    (λ ne. ⊎_elim (λ c. inl (Contains-tail x xs l c))
    (λ none. inr (λ c. ⊎_elim (λ e. ne e) (λ t. none t) (Contains-cons_cases x xs l c)))
    (contains_decided xs l))
    (cases_lit x l)

-- where propagation was done at the front, the clause is new
pub point_new : (s : Search) (clause : List Lit) (index : ℕ) (u : Lit) → IsSearch s
    → HasPoint s.lits clause (last_start s) index u → IsSettled s → IsNew s.clauses clause
point_new s clause index u form h settled = record {
  plain = h.plain;
  holds_none = λ id named within. settled.not_unit id u named (record {
    there = ⊎_elim (λ c. c)
        (λ none. absurd (settled.not_false id named (record {
          each = λ l c. h.others l (within l c) (λ e. none (subst (Contains (clause_at s.clauses id)) e c));
        })))
        (contains_decided (clause_at s.clauses id) u);
    not_true = point_unset s.lits clause (last_start s) index (last_start s) u form.apart h;
    not_false = point_free s.lits clause (last_start s) index (last_start s) u form.apart h h.late;
    others = λ l c ne. h.others l (within l c) ne;
  });
}

-- the point of a clause as a walk has found it
pub uip_point : (s : Search) (start index : ℕ) (a : Analysis) (u : Lit) (more clause : List Lit) → IsSearch s
    → IsFirstUip s start a index → StandsAt s.lits index (negation u) → more ≡ a.clause ++ u ∷ []
    → IsClauseOf more clause → HasPoint s.lits clause start index u
uip_point s start index a u more clause form f at e is =
    let c = concludes_uip s start index a u more clause f at e is in
    let all_false = concluded_false s (Below start) a clause f.at.counted c in
    record {
      there = c.open_in index u f.last.is at;
      stands = at;
      late = ltb-false index start (but_not _ _ f.last.is).1;
      others = λ l m ne. ⊎_elim
          (λ kept. let k = f.at.counted.kept l kept in
          stands_front s.lits k.0 start (negation l) k.1 (ltb-true k.0 start k.2))
          (λ o. absurd (ne (negation_same l u (stands_same s.lits index (negation l) (negation u)
          (subst (λ n. StandsAt s.lits n (negation l)) (f.last.alone o.0 o.2) o.1) at))))
          (c.back l m);
      plain = λ t. consistent s.lits (negation t.0) form.apart (all_false t.0 t.1) (all_false (negation t.0) t.2);
    }

-- the others' reach ends before the last level
pub reach_low : (s : Search) (start index reach : ℕ) (a : Analysis) → IsSearch s → IsFirstUip s start a index
    → IsReach s.lits a.clause reach → reach ≤ start
reach_low s start index reach a form f r =
    ⊎_elim (λ none. omega (arith, none))
    (λ some.
    let t = r.top some in
    let k = f.at.counted.kept t.0 t.1 in
    let same = stands_index s.lits (reach - 1) k.0 (negation t.0) form.apart t.2 k.1 in
    let low = ltb-true k.0 start k.2 in
    let pos : 0 < reach = nonzero reach some in
    omega (arith, same, low, pos))
    (cases_eq reach 0)

starts_low : (s : Search) (k : ℕ) → IsSearch s → k < length s.starts → get_or s.starts k 0 ≤ last_start s
starts_low s k form lt = form.levels.rise k (length s.starts - 1) (omega arith) (omega arith)

pub level_low : (s : Search) (reach level : ℕ) → IsSearch s → IsDecided s → IsLevelOf s.starts reach level
    → reach ≤ last_start s → level < length s.starts
level_low s reach level form decided h low =
    ⊎_elim (λ lt. lt)
    (λ le. let some = decided.some in
    let bad = h.below (length s.starts - 1) (omega arith) in
    absurd (omega (arith, bad, low)))
    (cases_lt level (length s.starts))

pub point_unit : (s : Search) (clause kept : List Lit) (index reach level : ℕ) (u : Lit) → IsSearch s
    → HasPoint s.lits clause (last_start s) index u
    → ((l : Lit) → Contains clause l → l ≢ u → Contains kept l) → IsReach s.lits kept reach
    → IsLevelOf s.starts reach level → IsUnitFrom s level clause u
point_unit s clause kept index reach level u form h from r v = record {
  each = λ k le lt.
      let n = get_or s.starts k 0 in
      let low = starts_low s k form lt in
      let late = h.late in
      record {
        there = h.there;
        not_true = point_unset s.lits clause (last_start s) index n u form.apart h;
        not_false = point_free s.lits clause (last_start s) index n u form.apart h (omega (arith, low, late));
        others = λ l c ne. longer_front reach n s.lits (negation l) (v.above k le lt) (r.others l (from l c ne));
      };
}

pub point_least : (s : Search) (clause kept : List Lit) (index reach level : ℕ) (u : Lit) → IsSearch s
    → HasPoint s.lits clause (last_start s) index u → ((l : Lit) → Contains kept l → Contains clause l)
    → ((l : Lit) → Contains kept l → Contains (take (last_start s) s.lits) (negation l)) → IsReach s.lits kept reach
    → IsLevelOf s.starts reach level → IsOpenBelow s level clause
point_least s clause kept index reach level u form h into early r v = record {
  each = λ k lt.
      let n = get_or s.starts k 0 in
      let size = v.within in
      let low = starts_low s k form (omega (arith, size)) in
      let late = h.late in
      let under = v.below k lt in
      let t = r.top (λ none. omega (arith, none, under)) in
      record {
        one = t.0;
        other = u;
        one_there = into t.0 t.1;
        other_there = h.there;
        apart = λ e. point_free s.lits clause (last_start s) index (last_start s) u form.apart h late
            (subst (λ (l : Lit). Contains (take (last_start s) s.lits) (negation l)) e (early t.0 t.1));
        one_free = λ c.
            let f = front_stands s.lits n (negation t.0) c in
            let same = stands_index s.lits f.0 (reach - 1) (negation t.0) form.apart f.1 t.2 in
            let less = f.2 in
            omega (arith, same, less, under);
        other_free = point_free s.lits clause (last_start s) index n u form.apart h (omega (arith, low, late));
      };
}

-- all of it, of what a walk has found
pub kept_early : (s : Search) (start index : ℕ) (a : Analysis) → IsFirstUip s start a index → (l : Lit)
    → Contains a.clause l → Contains (take start s.lits) (negation l)
kept_early s start index a f l c =
    let k = f.at.counted.kept l c in
    stands_front s.lits k.0 start (negation l) k.1 (ltb-true k.0 start k.2)

pub others_kept : (s : Search) (start index : ℕ) (a : Analysis) (u : Lit) (more clause : List Lit)
    → IsFirstUip s start a index → StandsAt s.lits index (negation u) → more ≡ a.clause ++ u ∷ []
    → IsClauseOf more clause → (l : Lit) → Contains clause l → l ≢ u → Contains a.clause l
others_kept s start index a u more clause f at e is l c ne =
    let w = concludes_uip s start index a u more clause f at e is in
    ⊎_elim (λ kept. kept)
    (λ o. absurd (ne (negation_same l u (stands_same s.lits index (negation l) (negation u)
    (subst (λ n. StandsAt s.lits n (negation l)) (f.last.alone o.0 o.2) o.1) at))))
    (w.back l c)

-- where the last level is named by its start
pub record IsConclusion (s : Search) (a : Analysis) (index reach level : ℕ) (u : Lit)
    (more clause : List Lit) : Type 0 where
  pub form : IsSearch s
  pub decided : IsDecided s
  pub uip : IsFirstUip s (last_start s) a index
  pub stands : StandsAt s.lits index (negation u)
  pub pushed : more ≡ a.clause ++ u ∷ []
  pub sorted : IsClauseOf more clause
  pub reach_is : IsReach s.lits a.clause reach
  pub level_is : IsLevelOf s.starts reach level

pub conclusion_point : (s : Search) (a : Analysis) (index reach level : ℕ) (u : Lit) (more clause : List Lit)
    → IsConclusion s a index reach level u more clause → HasPoint s.lits clause (last_start s) index u
conclusion_point s a index reach level u more clause c =
    uip_point s (last_start s) index a u more clause c.form c.uip c.stands c.pushed c.sorted

pub conclusion_new : (s : Search) (a : Analysis) (index reach level : ℕ) (u : Lit) (more clause : List Lit)
    → IsConclusion s a index reach level u more clause → IsSettled s → IsNew s.clauses clause
conclusion_new s a index reach level u more clause c settled =
    point_new s clause index u c.form (conclusion_point s a index reach level u more clause c) settled

pub conclusion_level : (s : Search) (a : Analysis) (index reach level : ℕ) (u : Lit) (more clause : List Lit)
    → IsConclusion s a index reach level u more clause → level < length s.starts
conclusion_level s a index reach level u more clause c =
    level_low s reach level c.form c.decided c.level_is
    (reach_low s (last_start s) index reach a c.form c.uip c.reach_is)

pub conclusion_unit : (s : Search) (a : Analysis) (index reach level : ℕ) (u : Lit) (more clause : List Lit)
    → IsConclusion s a index reach level u more clause → IsUnitFrom s level clause u
conclusion_unit s a index reach level u more clause c =
    point_unit s clause a.clause index reach level u c.form
    (conclusion_point s a index reach level u more clause c)
    (others_kept s (last_start s) index a u more clause c.uip c.stands c.pushed c.sorted) c.reach_is c.level_is

pub conclusion_least : (s : Search) (a : Analysis) (index reach level : ℕ) (u : Lit) (more clause : List Lit)
    → IsConclusion s a index reach level u more clause → IsOpenBelow s level clause
conclusion_least s a index reach level u more clause c =
    let w = concludes_uip s (last_start s) index a u more clause c.uip c.stands c.pushed c.sorted in
    point_least s clause a.clause index reach level u c.form
    (conclusion_point s a index reach level u more clause c)
    w.kept_in (kept_early s (last_start s) index a c.uip) c.reach_is c.level_is

-- the negation of the literal of an index
pub asserted : (lits read : List Lit) (index : ℕ) (u d : Lit) → index < length lits → read ≡ lits
    → u ≡ negation (get_or read index d) → StandsAt lits index (negation u)
asserted lits read index u d lt same is =
    let e : get_or lits index d ≡ negation u =
    sym (ap (λ (xs : List Lit). get_or xs index d) same)
    ∙ (sym (negation-negation (get_or read index d)) ∙ ap negation (sym is)) in
    subst (StandsAt lits index) e (stands_here lits index d lt)

pub conclusion_of : (s : Search) (a : Analysis) (start index reach level : ℕ) (u d : Lit) (read more clause : List Lit)
    (starts : List ℕ) → IsSearch s → IsDecided s → start ≡ last_start s → IsFirstUip s start a index → read ≡ s.lits
    → u ≡ negation (get_or read index d) → more ≡ a.clause ++ u ∷ [] → IsClauseOf more clause
    → IsReach s.lits a.clause reach → starts ≡ s.starts → IsLevelOf starts reach level
    → IsConclusion s a index reach level u more clause
conclusion_of s a start index reach level u d read more clause starts form decided start_is f same is pushed sorted r
    starts_are v = record {
      form = form;
      decided = decided;
      uip = subst (λ n. IsFirstUip s n a index) start_is f;
      stands = asserted s.lits read index u d f.last.within same is;
      pushed = pushed;
      sorted = sorted;
      reach_is = r;
      level_is = subst (λ (xs : List ℕ). IsLevelOf xs reach level) starts_are v;
    }

pub conclusion_learned : (s : Search) (a : Analysis) (index reach level : ℕ) (u : Lit) (more clause : List Lit)
    (hints : List ℕ) → IsConclusion s a index reach level u more clause → hints ≡ reverse a.hints
    → IsLearned s.clauses s.lits clause hints
conclusion_learned s a index reach level u more clause hints c hints_are =
    concluded s (Below (last_start s)) a c.uip.before clause hints c.form c.uip.at
    (concludes_uip s (last_start s) index a u more clause c.uip c.stands c.pushed c.sorted) hints_are

pub unsettled : (s : Search) (a : Analysis) (start conflict : ℕ) → start ≡ last_start s
    → IsConflict s.clauses s.lits conflict → IsAt s (Below start) a (length s.lits)
    → HasMetAll s (Below start) a (clause_at s.clauses conflict) → a.open_count ≡ 0 → IsSettled s → ⊥
unsettled s a start conflict e bad at met none settled =
    settled_open s a conflict bad (subst (λ n. IsAt s (Below n) a (length s.lits)) e at)
    (subst (λ n. HasMetAll s (Below n) a (clause_at s.clauses conflict)) e met) none settled
