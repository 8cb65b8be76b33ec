-- A search goes on: levels begin, grow and are taken back, and clauses come.
use Rattle.std.proofs.Common.{◌≡◌, ℕ, ◌<◌, ◌≤◌, ◌+◌, ◌-◌, List, [], ◌∷◌, ◌++◌, length, get_or, take, arith, ap, sym}
use Rattle.std.proofs.Common.{subst, ◌∙◌, refl, inl, inr, ⊎_elim, length-append, length-take}
use Rattle.std.specs.Prelude.{Contains, ◌⊎◌}
use Rattle.std.proofs.Math.Seq.{get_or-append_seam}
use Rattle.std.proofs.lemmas.List.{get_or_default, get_or-set_other, get_or_append_left, get_or-append_right}
use Rattle.std.proofs.lemmas.List.{get_or-take, take-append-le, take-take, take_at}
use Rattle.std.proofs.lemmas.Bool.{cases_lt}
use Rattle.plain_lits.specs.declared.lit.Lit.{Lit}
use Rattle.plain_lits.specs.Literals.{negation}
use Rattle.plain_lits.specs.HintCheck.{clause_at, IsNamed, IsFalsified, IsUnit}
use Rattle.plain_lits.proofs.OneOutcome.{cases_lit}
use Rattle.unit_propagate.specs.Search.{Search, IsSearch, IsQuiet, HasGrown, Decides, GoesBack, GainsBlock, GainsClause}
use Rattle.unit_propagate.specs.Search.{Learns, StaysSearch}
use Rattle.clause_watches.proofs.Fronts.{consistent}
use Rattle.conflict_learn.specs.Learning.{StandsAt, IsDecided, IsSettled, IsOpen, IsAssumed, lits_at}
use Rattle.sat_core.specs.Runs.{IsEarly, BeginsAt, IsRun, IsFronted, IsResting, IsReadyFor}
use Rattle.sleeping_clauses.specs.Steps.{HasRoom}
use Rattle.sat_core.proofs.Fronting.{fronted_grown, fronted_learned, fronted_stays, fronted_block, fronted_decided}
use Rattle.sat_core.proofs.Fronting.{fronted_back, fronted_none, fronted_new, end_past, rests}
use Rattle.conflict_learn.proofs.Literally.{stands_contains, contains_stands}
use Rattle.sleeping_clauses.proofs.Mirroring.{clause_cases, room_more}

stands_more : (lits rest : List Lit) (index : ℕ) (l : Lit) → StandsAt lits index l → StandsAt (lits ++ rest) index l
stands_more lits rest index l s =
    let lt = s.within in
    record {
      within = omega (arith, length-append lits rest);
      is = λ d. get_or_append_left lits rest d index lt ∙ s.is d;
    }

stands_front : (lits : List Lit) (n index : ℕ) (l : Lit) → index < n → StandsAt lits index l
    → StandsAt (take n lits) index l
stands_front lits n index l lt s =
    let within = s.within in
    record {
      within = omega (arith, length-take n lits);
      is = λ d. get_or-take n lits index d lt ∙ s.is d;
    }

-- clauses that stay named as they were
room_same : (old new : Search) → new.clauses ≡ old.clauses → old.vars ≤ new.vars → HasRoom old → HasRoom new
room_same old new same vars room = record {
  known = λ id l named c.
      let lt = room.known id l (subst (λ cs. IsNamed cs id) same named)
      (subst (λ cs. Contains (clause_at cs id) l) same c) in
      omega arith;
}

-- where two literals of a clause aren't false, it is neither false nor unit
open_not_false : (lits clause : List Lit) → IsOpen lits clause → IsFalsified negation lits clause → ⊥
open_not_false lits clause o f = o.one_free (f.each o.one o.one_there)

open_not_unit : (lits clause : List Lit) (l : Lit) → IsOpen lits clause → IsUnit negation lits clause l → ⊥
open_not_unit lits clause l o u =
    ⊎_elim
    (λ (same : o.one ≡ l). o.other_free (u.others o.other o.other_there (λ e. o.apart (same ∙ sym e))))
    (λ ne. o.one_free (u.others o.one o.one_there ne))
    (cases_lit o.one l)

pub open_quiet : (clauses : List (List Lit)) (lits clause : List Lit) → IsQuiet clauses lits → IsOpen lits clause
    → IsQuiet (clauses ++ clause ∷ []) lits
open_quiet clauses lits clause q o = record {
  not_false = λ id named f. ⊎_elim
      (λ w. q.not_false id w.0 (subst (IsFalsified negation lits) w.1 f))
      (λ w. open_not_false lits clause o (subst (IsFalsified negation lits) w.1 f))
      (clause_cases clauses clause id named);
  not_unit = λ id l named u. ⊎_elim
      (λ w. q.not_unit id l w.0 (subst (λ c. IsUnit negation lits c l) w.1 u))
      (λ w. open_not_unit lits clause l o (subst (λ c. IsUnit negation lits c l) w.1 u))
      (clause_cases clauses clause id named);
}

-- the second level begins with the assumptions
pub begins : (front : List Lit) (old new : Search) (assumptions : List Lit) → IsSearch old
    → IsReadyFor front assumptions old → GainsBlock old new assumptions → IsRun front assumptions new
begins front old new assumptions form ready g =
    let one = ready.one in
    let n = length old.lits in
    let long : length new.starts ≡ 2 =
    omega (arith, ap length g.starts, length-append old.starts (n ∷ []), one) in
    let room = room_same old new g.clauses g.vars ready.fronted.room in
    record {
      some = omega (arith, long);
      there = λ l c.
          let s = contains_stands new.lits l (g.block_true l c) in
          record {
            index = s.0;
            stands = s.1;
            early = record { below = λ k pos lt. absurd (omega (arith, long, pos, lt)) };
          };
      free = λ index lt none. inl (record {
        assumed = λ d. ⊎_elim
            (λ (before : index < n). subst (Contains assumptions)
            (sym (ap (λ xs. get_or xs index d) g.more.1 ∙ get_or_append_left old.lits g.more.0 d index before))
            (ready.part (get_or old.lits index d) (ready.fronted.free index before
            (let e = end_past old (omega (arith, one)) in omega (arith, e, before))
            (sym (g.reasons index before) ∙ none) d)))
            (λ after. g.more.2 (get_or new.lits index d) (
              index - n,
              (let e = ap length g.more.1 in omega (arith, e, length-append old.lits g.more.0, after, lt)),
              sym (get_or-append_right old.lits g.more.0 n index (get_or new.lits index d) refl after)
                  ∙ (ap (λ xs. get_or xs index (get_or new.lits index d)) (sym g.more.1)
                  ∙ get_or_default new.lits index (get_or new.lits index d) d lt),
            ))
            (cases_lt index n);
        early = record { below = λ k pos k_lt. absurd (omega (arith, long, pos, k_lt)) };
      });
      fronted = fronted_block front old new assumptions form (omega (arith, one)) room g ready.fronted;
      settled = λ k pos lt. absurd (omega (arith, long, pos, lt));
    }

-- literals with reasons come
pub grown : (front : List Lit) (old new : Search) (assumptions : List Lit) → IsSearch old → HasGrown old new
    → IsRun front assumptions old → IsRun front assumptions new
grown front old new assumptions form g run =
    let room = room_same old new g.clauses (let e = g.vars in omega (arith, e)) run.fronted.room in
    let rest = g.more.0 in
    let lits : new.lits ≡ old.lits ++ rest = g.more.1 in
    let starts : new.starts ≡ old.starts = g.starts in
    let long = ap length starts in
    let some = run.some in
    record {
      some = omega (arith, long, some);
      there = λ l c. let w = run.there l c in record {
        index = w.index;
        stands = subst (λ xs. StandsAt xs w.index l) (sym lits) (stands_more old.lits rest w.index l w.stands);
        early = subst (λ xs. IsEarly xs w.index) (sym starts) w.early;
      };
      free = λ index lt none. ⊎_elim
          (λ (before : index < length old.lits). ⊎_elim
          (λ w. inl (record {
            assumed = λ d. subst (Contains assumptions)
                (sym (ap (λ xs. get_or xs index d) lits ∙ get_or_append_left old.lits rest d index before))
                (w.assumed d);
            early = subst (λ xs. IsEarly xs index) (sym starts) w.early;
          }))
          (λ w. inr (subst (λ xs. BeginsAt xs index) (sym starts) w))
          (run.free index before (sym (g.reasons index before) ∙ none)))
          (λ after. absurd (g.new_reasons index after lt none))
          (cases_lt index (length old.lits));
      fronted = fronted_grown front old new form (omega (arith, some)) room g run.fronted;
      settled = λ k pos lt.
          let k_lt : k < length old.starts = omega (arith, long, lt) in
          let q = run.settled k pos k_lt in
          let start_le = form.levels.within k k_lt in
          let same : take (get_or new.starts k 0) new.lits ≡ take (get_or old.starts k 0) old.lits =
          ap (λ xs. take (get_or xs k 0) new.lits) starts
          ∙ (ap (take (get_or old.starts k 0)) lits ∙ take-append-le (get_or old.starts k 0) old.lits rest start_le) in
          subst (λ xs. IsQuiet new.clauses xs) (sym same)
          (subst (λ cs. IsQuiet cs (take (get_or old.starts k 0) old.lits)) (sym g.clauses) q);
    }

-- a level begins with a decision
pub decided : (front : List Lit) (old new : Search) (lit : Lit) (assumptions : List Lit) → IsSearch old
    → IsQuiet old.clauses old.lits → Decides old new lit → IsRun front assumptions old → IsRun front assumptions new
decided front old new lit assumptions form quiet g run =
    let room = room_same old new g.clauses (let e = g.vars in omega (arith, e)) run.fronted.room in
    let n = length old.lits in
    let m = length old.starts in
    let some = run.some in
    let long : length new.starts ≡ m + 1 = ap length g.starts ∙ length-append old.starts (n ∷ []) in
    let start_old : (k : ℕ) → k < m → get_or new.starts k 0 ≡ get_or old.starts k 0 = λ k lt.
    ap (λ xs. get_or xs k 0) g.starts ∙ get_or_append_left old.starts (n ∷ []) 0 k lt in
    let start_new : (k : ℕ) → k ≡ m → get_or new.starts k 0 ≡ n = λ k e.
    ap (λ xs. get_or xs k 0) g.starts ∙ (ap (λ i. get_or (old.starts ++ n ∷ []) i 0) e
    ∙ get_or-append_seam old.starts n [] 0) in
    let early : (index : ℕ) → index < n → IsEarly old.starts index → IsEarly new.starts index = λ index lt e. record {
      below = λ k pos k_lt. ⊎_elim
          (λ before. let low = e.below k pos before in let same = start_old k before in omega (arith, low, same))
          (λ after. let same = start_new k (omega (arith, long, k_lt, after)) in omega (arith, same, lt))
          (cases_lt k m);
    } in
    record {
      some = omega (arith, long, some);
      there = λ l c. let w = run.there l c in record {
        index = w.index;
        stands = subst (λ xs. StandsAt xs w.index l) (sym g.lits) (stands_more old.lits (lit ∷ []) w.index l w.stands);
        early = early w.index w.stands.within w.early;
      };
      free = λ index lt none. ⊎_elim
          (λ (before : index < n). ⊎_elim
          (λ w. inl (record {
            assumed = λ d. subst (Contains assumptions)
                (sym (ap (λ xs. get_or xs index d) g.lits ∙ get_or_append_left old.lits (lit ∷ []) d index before))
                (w.assumed d);
            early = early index before w.early;
          }))
          (λ w. let w_lt = w.within in inr (record {
            level = w.level;
            later = w.later;
            within = omega (arith, long, w_lt);
            is = w.is ∙ sym (start_old w.level w_lt);
          }))
          (run.free index before
          (sym (ap (λ xs. get_or xs index 0) g.reasons
          ∙ get_or-set_other old.reasons n index 0 0 (λ e. let bad : index ≡ n = e in omega arith)) ∙ none)))
          (λ after. inr (record {
            level = m;
            later = some;
            within = omega (arith, long);
            is =
                let long_lits = ap length g.lits ∙ length-append old.lits (lit ∷ []) in
                let e : index ≡ n = omega (arith, after, lt, long_lits) in
                e ∙ sym (start_new m refl);
          }))
          (cases_lt index n);
      fronted = fronted_decided front old new lit form (omega (arith, some)) room g run.fronted;
      settled = λ k pos lt. subst (λ cs. IsQuiet cs (take (get_or new.starts k 0) new.lits)) (sym g.clauses)
          (⊎_elim
          (λ before.
          let start_le = form.levels.within k before in
          let same : take (get_or new.starts k 0) new.lits ≡ take (get_or old.starts k 0) old.lits =
          ap (λ i. take i new.lits) (start_old k before)
          ∙ (ap (take (get_or old.starts k 0)) g.lits
          ∙ take-append-le (get_or old.starts k 0) old.lits (lit ∷ []) start_le) in
          subst (λ xs. IsQuiet old.clauses xs) (sym same) (run.settled k pos before))
          (λ after.
          let same : take (get_or new.starts k 0) new.lits ≡ old.lits =
          ap (λ i. take i new.lits) (start_new k (omega (arith, long, lt, after)))
          ∙ (ap (take n) g.lits ∙ take_at old.lits (lit ∷ []) n refl) in
          subst (λ xs. IsQuiet old.clauses xs) (sym same) quiet)
          (cases_lt k m));
    }

-- what a return leaves of the literals
pub back_lits : (old new : Search) (level : ℕ) → GoesBack old new level → level < length old.starts
    → new.lits ≡ lits_at old level
back_lits old new level g lt =
    g.lits ∙ ap (λ i. take i old.lits) (get_or_default old.starts level (length old.lits) 0 lt)

back_start : (old new : Search) (level k : ℕ) → GoesBack old new level → k < level
    → get_or new.starts k 0 ≡ get_or old.starts k 0
back_start old new level k g lt = ap (λ xs. get_or xs k 0) g.starts ∙ get_or-take level old.starts k 0 lt

pub lits_below : (old new : Search) (level k : ℕ) → IsSearch old → GoesBack old new level → level < length old.starts
    → k < level → lits_at new k ≡ lits_at old k
lits_below old new level k form g lt k_lt =
    let rise = form.levels.rise k level (omega arith) lt in
    ap (λ i. take i new.lits) (back_start old new level k g k_lt)
    ∙ (ap (take (get_or old.starts k 0)) (back_lits old new level g lt)
    ∙ take-take (get_or old.starts k 0) (get_or old.starts level 0) old.lits rise)

-- levels are taken back, but not the first two
pub back : (front : List Lit) (old new : Search) (level : ℕ) (assumptions : List Lit) → IsSearch old → 1 < level
    → level < length old.starts
    → GoesBack old new level → IsRun front assumptions old → IsRun front assumptions new
back front old new level assumptions form pos lt g run =
    let room = room_same old new g.clauses (let e = g.vars in omega (arith, e)) run.fronted.room in
    let s = get_or old.starts level 0 in
    let lits = back_lits old new level g lt in
    let long : length new.starts ≡ level = ap length g.starts
    ∙ (let e : length (take level old.starts) ≡ level = omega (arith, length-take level old.starts) in e) in
    let s_le = form.levels.within level lt in
    let long_lits : length new.lits ≡ s = ap length lits
    ∙ (let e : length (take s old.lits) ≡ s = omega (arith, length-take s old.lits, s_le) in e) in
    let early : (index : ℕ) → IsEarly old.starts index → IsEarly new.starts index = λ index e. record {
      below = λ k k_pos k_lt. let low = e.below k k_pos (omega arith) in
          let same = back_start old new level k g (omega arith) in omega (arith, low, same);
    } in
    record {
      some = omega (arith, long, pos);
      there = λ l c. let w = run.there l c in record {
        index = w.index;
        stands = subst (λ xs. StandsAt xs w.index l) (sym lits)
            (stands_front old.lits s w.index l (w.early.below level pos lt) w.stands);
        early = early w.index w.early;
      };
      free = λ index i_lt none.
          let i_s : index < s = omega (arith, long_lits, i_lt) in
          ⊎_elim
          (λ w. inl (record {
            assumed = λ d. subst (Contains assumptions)
                (sym (ap (λ xs. get_or xs index d) lits ∙ get_or-take s old.lits index d i_s)) (w.assumed d);
            early = early index w.early;
          }))
          (λ w.
          let w_lt = w.within in
          let w_is = w.is in
          ⊎_elim
          (λ (k_lt : w.level < level). inr (record {
            level = w.level;
            later = w.later;
            within = omega (arith, long);
            is = w_is ∙ sym (back_start old new level w.level g k_lt);
          }))
          (λ ge. let rise = form.levels.rise level w.level ge w_lt in absurd (omega (arith, rise, w_is, i_s)))
          (cases_lt w.level level))
          (run.free index (omega (arith, i_s, s_le)) (sym (ap (λ xs. get_or xs index 0) g.reasons) ∙ none));
      fronted = fronted_back front old new level form (omega (arith, pos)) lt room g run.fronted;
      settled = λ k k_pos k_lt.
          let k_level : k < level = omega arith in
          subst (λ cs. IsQuiet cs (lits_at new k)) (sym g.clauses)
          (subst (λ xs. IsQuiet old.clauses xs) (sym (lits_below old new level k form g lt k_level))
          (run.settled k k_pos (omega arith)));
    }

-- a clause comes with its literal
pub learned : (front : List Lit) (old new : Search) (clause : List Lit) (lit : Lit) (id : ℕ) (assumptions : List Lit)
    → IsSearch old → Learns old new clause lit id → ((l : Lit) → Contains clause l → l.var < old.vars)
    → ((k : ℕ) → 1 < k → k < length old.starts → IsOpen (lits_at old k) clause) → IsRun front assumptions old
    → IsRun front assumptions new
learned front old new clause lit id assumptions form g known open_at run =
    let n = length old.lits in
    let starts : new.starts ≡ old.starts = g.starts in
    let long = ap length starts in
    let some = run.some in
    let more = g.vars in
    let id_is = g.id_is in
    let clauses_long = ap length g.clauses ∙ length-append old.clauses (clause ∷ []) in
    record {
      some = omega (arith, long, some);
      there = λ l c. let w = run.there l c in record {
        index = w.index;
        stands = subst (λ xs. StandsAt xs w.index l) (sym g.lits) (stands_more old.lits (lit ∷ []) w.index l w.stands);
        early = subst (λ xs. IsEarly xs w.index) (sym starts) w.early;
      };
      free = λ index lt none. ⊎_elim
          (λ (before : index < n). ⊎_elim
          (λ w. inl (record {
            assumed = λ d. subst (Contains assumptions)
                (sym (ap (λ xs. get_or xs index d) g.lits ∙ get_or_append_left old.lits (lit ∷ []) d index before))
                (w.assumed d);
            early = subst (λ xs. IsEarly xs index) (sym starts) w.early;
          }))
          (λ w. inr (subst (λ xs. BeginsAt xs index) (sym starts) w))
          (run.free index before (sym (g.reasons index before) ∙ none)))
          (λ after.
          let long_lits = ap length g.lits ∙ length-append old.lits (lit ∷ []) in
          let e : index ≡ n = omega (arith, after, lt, long_lits) in
          let zero_id : id ≡ 0 = sym g.reason ∙ (ap (λ i. get_or new.reasons i 0) (sym e) ∙ none) in
          absurd (omega (arith, zero_id, id_is, clauses_long)))
          (cases_lt index n);
      fronted = fronted_learned front old new clause lit id form (omega (arith, some))
          (room_more old new clause g.clauses more (λ l c. let lt = known l c in omega (arith, lt, more))
          run.fronted.room) g run.fronted;
      settled = λ k pos lt.
          let k_lt : k < length old.starts = omega (arith, long, lt) in
          let start_le = form.levels.within k k_lt in
          let same : lits_at new k ≡ lits_at old k =
          ap (λ xs. take (get_or xs k 0) new.lits) starts
          ∙ (ap (take (get_or old.starts k 0)) g.lits
          ∙ take-append-le (get_or old.starts k 0) old.lits (lit ∷ []) start_le) in
          subst (λ xs. IsQuiet new.clauses xs) (sym same)
          (subst (λ cs. IsQuiet cs (lits_at old k)) (sym g.clauses)
          (open_quiet old.clauses (lits_at old k) clause (run.settled k pos k_lt) (open_at k pos k_lt)));
    }

-- only more variables are known
pub stays_run : (front : List Lit) (old new : Search) (assumptions : List Lit) → IsSearch old → StaysSearch old new
    → IsRun front assumptions old → IsRun front assumptions new
stays_run front old new assumptions form g run =
    let a = g.assigned in
    let starts : new.starts ≡ old.starts = a.starts in
    let long = ap length starts in
    let some = run.some in
    record {
      some = omega (arith, long, some);
      there = λ l c. let w = run.there l c in record {
        index = w.index;
        stands = subst (λ xs. StandsAt xs w.index l) (sym a.lits) w.stands;
        early = subst (λ xs. IsEarly xs w.index) (sym starts) w.early;
      };
      free = λ index lt none.
          let before : index < length old.lits = subst (λ xs. index < length xs) a.lits lt in
          ⊎_elim
          (λ w. inl (record {
            assumed = λ d. subst (Contains assumptions) (sym (ap (λ xs. get_or xs index d) a.lits)) (w.assumed d);
            early = subst (λ xs. IsEarly xs index) (sym starts) w.early;
          }))
          (λ w. inr (subst (λ xs. BeginsAt xs index) (sym starts) w))
          (run.free index before (sym (a.reasons index before) ∙ none));
      fronted = fronted_stays front old new form (room_same old new g.clauses a.vars run.fronted.room) a run.fronted;
      settled = λ k pos lt.
          let k_lt : k < length old.starts = omega (arith, long, lt) in
          let same : lits_at new k ≡ lits_at old k =
          ap (λ xs. take (get_or xs k 0) new.lits) starts ∙ ap (take (get_or old.starts k 0)) a.lits in
          subst (λ xs. IsQuiet new.clauses xs) (sym same)
          (subst (λ cs. IsQuiet cs (lits_at old k)) (sym g.clauses) (run.settled k pos k_lt));
    }

-- a decision made the last level of more than two
pub has_decided : (front : List Lit) (s : Search) (assumptions : List Lit) → IsSearch s → 2 < length s.starts
    → IsRun front assumptions s → IsDecided s
has_decided front s assumptions form deep run =
    let last = length s.starts - 1 in
    record {
      some = omega (arith, deep);
      rest = λ index after lt none. ⊎_elim
          (λ w. let low = w.early.below last (omega arith) (omega arith) in omega (arith, low, after))
          (λ w.
          let w_lt = w.within in
          let w_is = w.is in
          let rise = form.levels.rise w.level last (omega arith) (omega arith) in
          omega (arith, rise, w_is, after))
          (run.free index lt none);
    }

pub has_settled : (front : List Lit) (s : Search) (assumptions : List Lit) → 2 < length s.starts
    → IsRun front assumptions s → IsSettled s
has_settled front s assumptions deep run = run.settled (length s.starts - 1) (omega arith) (omega arith)

-- on the first two levels a literal without a reason is assumed
pub core_lits : (front : List Lit) (s : Search) (assumptions : List Lit) (l : Lit) → length s.starts ≤ 2
    → IsRun front assumptions s → IsAssumed s l → Contains assumptions (negation l)
core_lits front s assumptions l shallow run a = ⊎_elim
    (λ w. subst (Contains assumptions) (a.stands.is l) (w.assumed l))
    (λ w. let w_lt = w.within in let pos = w.later in absurd (omega (arith, w_lt, pos, shallow)))
    (run.free a.index a.stands.within a.free)

-- a literal of a false clause isn't assumed
pub not_assumed : (front : List Lit) (s : Search) (assumptions clause : List Lit) (l : Lit) → IsSearch s
    → IsRun front assumptions s
    → IsFalsified negation s.lits clause → Contains clause l → Contains assumptions l → ⊥
not_assumed front s assumptions clause l form run f c a =
    let w = run.there l a in
    consistent s.lits l form.apart (stands_contains s.lits w.index l w.stands) (f.each l c)

-- the first level while literals with reasons come, and once all others are taken back
pub front_grown : (front : List Lit) (old new : Search) → IsSearch old → 0 < length old.starts → HasGrown old new
    → IsFronted front old → IsFronted front new
front_grown front old new form some g f =
    fronted_grown front old new form some (room_same old new g.clauses (let e = g.vars in omega (arith, e)) f.room) g f

pub front_rests : (front : List Lit) (old new : Search) → IsSearch old → 1 < length old.starts → GoesBack old new 1
    → IsFronted front old → IsResting front new
front_rests front old new form deep g f =
    rests front old new form deep (room_same old new g.clauses (let e = g.vars in omega (arith, e)) f.room) g f

-- a clause comes while there is no level but the first
pub resting_more : (front : List Lit) (old new : Search) (clause : List Lit) (id : ℕ) → IsSearch old
    → GainsClause old new clause id → IsResting front old → IsResting front new
resting_more front old new clause id form g r =
    let few = r.few in
    let long = ap length g.assigned.starts in
    record {
      fronted = fronted_stays front old new form
          (room_more old new clause g.clauses g.assigned.vars g.known r.fronted.room) g.assigned r.fronted;
      few = omega (arith, few, long);
    }

pub fronted_same : (front : List Lit) (old new : Search) → IsSearch old → StaysSearch old new → IsFronted front old
    → IsFronted front new
fronted_same front old new form g f =
    fronted_stays front old new form (room_same old new g.clauses g.assigned.vars f.room) g.assigned f

pub resting_stays : (front : List Lit) (old new : Search) → IsSearch old → StaysSearch old new → IsResting front old
    → IsResting front new
resting_stays front old new form g r =
    let few = r.few in
    let long = ap length g.assigned.starts in
    record { fronted = fronted_same front old new form g r.fronted; few = omega (arith, few, long) }

-- the front is given up: nothing is true then, as long as no other comes
back_none : (front : List Lit) (old new : Search) → IsFronted front old → GoesBack old new 0 → new.lits ≡ []
back_none front old new f g = g.lits ∙ ap (λ i. take i old.lits) f.base

back_room : (front : List Lit) (old new : Search) → IsFronted front old → GoesBack old new 0 → HasRoom new
back_room front old new f g = room_same old new g.clauses (let e = g.vars in omega (arith, e)) f.room

-- nothing is true then
pub resting_none : (front : List Lit) (old new : Search) → IsFronted front old → GoesBack old new 0 → IsResting [] new
resting_none front old new f g = record {
  fronted = fronted_none new (back_none front old new f g) g.starts (back_room front old new f g);
  few = let e = ap length g.starts in omega (arith, e);
}

pub given_up : (front : List Lit) (old mid new : Search) → IsFronted front old → GoesBack old mid 0 → IsSearch mid
    → StaysSearch mid new → IsResting [] new
given_up front old mid new f g form stays = resting_stays [] mid new form stays (resting_none front old mid f g)

pub front_begins : (front : List Lit) (old mid new : Search) (block : List Lit) → IsFronted front old
    → GoesBack old mid 0 → GainsBlock mid new block
    → IsFronted block new × (length new.starts ≡ 1) × ((l : Lit) → Contains new.lits l → Contains block l)
front_begins front old mid new block f g gains =
    fronted_new mid new block (back_none front old mid f g) g.starts
    (room_same mid new gains.clauses gains.vars (back_room front old mid f g)) gains

-- assumptions that are true don't stand beside their negations
pub plain_assumptions : (front : List Lit) (s : Search) (assumptions : List Lit) → IsSearch s
    → IsRun front assumptions s → (l : Lit) → Contains assumptions l → Contains assumptions (negation l) → ⊥
plain_assumptions front s assumptions form run l c against =
    let a = run.there l c in
    let b = run.there (negation l) against in
    consistent s.lits l form.apart (stands_contains s.lits a.index l a.stands)
    (stands_contains s.lits b.index (negation l) b.stands)
