-- The first level, which has the front: it stays as it is while levels above it come and go.
use Rattle.std.proofs.Common.{◌≡◌, ◌≢◌, ℕ, ◌<◌, ◌≤◌, ◌+◌, List, [], ◌∷◌, ◌++◌, length, get_or, take, arith, ap, sym}
use Rattle.std.proofs.Common.{subst, ◌∙◌, refl, ⊎_elim, length-append, length-take}
use Rattle.std.specs.Prelude.{Contains, Result, Ok, Err, OnErr, OnOk}
use Rattle.std.proofs.Math.Seq.{get_or-append_seam}
use Rattle.std.proofs.lemmas.List.{append-nil, get_or_default, get_or_past, get_or_append_left, get_or-take}
use Rattle.std.proofs.lemmas.List.{get_or-set_other}
use Rattle.std.proofs.lemmas.Bool.{cases_lt}
use Rattle.lists.proofs.Membership.{Contains-nil}
use Rattle.plain_lits.specs.declared.lit.Lit.{Lit}
use Rattle.plain_lits.specs.declared.value.Value.{Value}
use Rattle.plain_lits.specs.declared.value.Value.TheVariants.{True, False, Unset}
use Rattle.plain_lits.specs.Literals.{negation}
use Rattle.plain_lits.specs.Values.{IsValueIn}
use Rattle.unit_propagate.specs.Search.{Search, IsSearch, HasGrown, Decides, GoesBack, GainsBlock, Learns}
use Rattle.unit_propagate.specs.Search.{StaysAssigned}
use Rattle.conflict_learn.proofs.Literally.{contains_stands}
use Rattle.sleeping_clauses.specs.Steps.{HasRoom}
use Rattle.sat_core.specs.Runs.{IsFronted, IsResting, front_end}

-- a literal whose value isn't False isn't false
pub not_false : (lits : List Lit) (l : Lit) (v : Value) → IsValueIn lits l v → v ≢ False → Contains lits (negation l)
    → ⊥
not_false lits l True h ne c = h.1 c
not_false lits l False h ne c = ne refl
not_false lits l Unset h ne c = h.1 c

-- what holds of an error holds of whatever a call gives, if it holds
pub on_err : {T E : Type 0} (result : Result T E) (P : Type 0) → P → OnErr result P
on_err (Ok x) P p = tt
on_err (Err e) P p = p

-- and the same of a call that succeeds
pub on_ok : {T E : Type 0} (result : Result T E) (P : Type 0) → P → OnOk result P
on_ok (Ok x) P p = p
on_ok (Err e) P p = tt

-- where the first level ends: at the second one's begin, or it has all
end_of : (s : Search) → 1 < length s.starts → front_end s ≡ get_or s.starts 1 0
end_of s lt = get_or_default s.starts 1 (length s.lits) 0 lt

pub end_past : (s : Search) → length s.starts ≤ 1 → front_end s ≡ length s.lits
end_past s le = get_or_past s.starts 1 (length s.lits) le

end_within : (s : Search) → IsSearch s → front_end s ≤ length s.lits
end_within s form = ⊎_elim
    (λ lt. let e = end_of s lt in let w = form.levels.within 1 lt in omega (arith, e, w))
    (λ ge. let e = end_past s ge in omega (arith, e))
    (cases_lt 1 (length s.starts))

-- the true literals below an index are the same, with their reasons
record AreSameBelow (old new : Search) (n : ℕ) : Type 0 where
  pub in_old : n ≤ length old.lits
  pub in_new : n ≤ length new.lits
  pub lits : (i : ℕ) (d : Lit) → i < n → get_or new.lits i d ≡ get_or old.lits i d
  pub reasons : (i : ℕ) → i < n → get_or new.reasons i 0 ≡ get_or old.reasons i 0

-- so the first level is the same, where what it gains has reasons
fronted_as : (front : List Lit) (old new : Search) → get_or new.starts 0 (length new.lits) ≡ 0
    → AreSameBelow old new (front_end old) → front_end old ≤ front_end new
    → ((i : ℕ) → front_end old ≤ i → i < front_end new → i < length new.lits → get_or new.reasons i 0 ≢ 0)
    → HasRoom new → IsFronted front old → IsFronted front new
fronted_as front old new base same longer more room f = record {
  base = base;
  there = λ l c.
      let w = f.there l c in
      let lt = w.within in
      let in_new = same.in_new in
      record {
        index = w.index;
        stands = record { within = omega (arith, lt, in_new); is = λ d. same.lits w.index d lt ∙ w.stands.is d };
        within = omega (arith, lt, longer);
      };
  free = λ index lt below none d. ⊎_elim
      (λ before.
      let in_old = same.in_old in
      subst (Contains front) (sym (same.lits index d before))
      (f.free index (omega (arith, before, in_old)) before (sym (same.reasons index before) ∙ none) d))
      (λ after. absurd (more index after below lt none))
      (cases_lt index (front_end old));
  room = room;
}

base_same : (old new : Search) → 0 < length old.starts → new.starts ≡ old.starts
    → get_or old.starts 0 (length old.lits) ≡ 0 → get_or new.starts 0 (length new.lits) ≡ 0
base_same old new some starts base =
    ap (λ xs. get_or xs 0 (length new.lits)) starts
    ∙ (get_or_default old.starts 0 (length new.lits) (length old.lits) some ∙ base)

-- the levels are the same, and literals may come, each with a reason
fronted_more : (front : List Lit) (old new : Search) (rest : List Lit) → IsSearch old
    → get_or new.starts 0 (length new.lits) ≡ 0
    → new.starts ≡ old.starts → new.lits ≡ old.lits ++ rest
    → ((i : ℕ) → i < length old.lits → get_or new.reasons i 0 ≡ get_or old.reasons i 0)
    → ((i : ℕ) → length old.lits ≤ i → i < length new.lits → get_or new.reasons i 0 ≢ 0)
    → HasRoom new → IsFronted front old → IsFronted front new
fronted_more front old new rest form base starts lits reasons fresh room f =
    let long : length new.lits ≡ length old.lits + length rest = ap length lits ∙ length-append old.lits rest in
    let in_old = end_within old form in
    let starts_long = ap length starts in
    fronted_as front old new base (record {
      in_old = in_old;
      in_new = omega (arith, in_old, long);
      lits = λ i d lt. ap (λ xs. get_or xs i d) lits
          ∙ get_or_append_left old.lits rest d i (omega (arith, lt, in_old));
      reasons = λ i lt. reasons i (omega (arith, lt, in_old));
    })
    (⊎_elim
    (λ lt.
    let a = end_of old lt in
    let b = end_of new (omega (arith, lt, starts_long)) in
    let c = ap (λ xs. get_or xs 1 0) starts in
    omega (arith, a, b, c))
    (λ ge. let b = end_past new (omega (arith, ge, starts_long)) in omega (arith, in_old, long, b))
    (cases_lt 1 (length old.starts)))
    (λ i from below lt. ⊎_elim
    (λ deep.
    let a = end_of old deep in
    let b = end_of new (omega (arith, deep, starts_long)) in
    let c = ap (λ xs. get_or xs 1 0) starts in
    absurd (omega (arith, a, b, c, from, below)))
    (λ ge. let a = end_past old ge in fresh i (omega (arith, a, from)) lt)
    (cases_lt 1 (length old.starts)))
    room f

pub fronted_grown : (front : List Lit) (old new : Search) → IsSearch old → 0 < length old.starts → HasRoom new
    → HasGrown old new → IsFronted front old → IsFronted front new
fronted_grown front old new form some room g f =
    fronted_more front old new g.more.0 form (base_same old new some g.starts f.base) g.starts g.more.1 g.reasons
    g.new_reasons room f

pub fronted_learned : (front : List Lit) (old new : Search) (clause : List Lit) (lit : Lit) (id : ℕ) → IsSearch old
    → 0 < length old.starts → HasRoom new → Learns old new clause lit id → IsFronted front old → IsFronted front new
fronted_learned front old new clause lit id form some room g f =
    let long = ap length g.lits ∙ length-append old.lits (lit ∷ []) in
    let clauses_long = ap length g.clauses ∙ length-append old.clauses (clause ∷ []) in
    let id_is = g.id_is in
    fronted_more front old new (lit ∷ []) form (base_same old new some g.starts f.base) g.starts g.lits g.reasons
    (λ i from lt none.
    let e : i ≡ length old.lits = omega (arith, from, lt, long) in
    let zero_id : id ≡ 0 = sym g.reason ∙ (ap (λ k. get_or new.reasons k 0) (sym e) ∙ none) in
    omega (arith, zero_id, id_is, clauses_long))
    room f

pub fronted_stays : (front : List Lit) (old new : Search) → IsSearch old → HasRoom new → StaysAssigned old new
    → IsFronted front old → IsFronted front new
fronted_stays front old new form room a f =
    let long = ap length a.lits in
    fronted_more front old new [] form
    (ap (λ xs. get_or xs 0 (length new.lits)) a.starts ∙ (ap (λ n. get_or old.starts 0 n) long ∙ f.base)) a.starts
    (a.lits ∙ sym (append-nil old.lits)) a.reasons (λ i from lt none. omega (arith, from, lt, long)) room f

-- a level begins behind the first
fronted_level : (front : List Lit) (old new : Search) (rest : List Lit) → IsSearch old → 0 < length old.starts
    → new.starts ≡ old.starts ++ length old.lits ∷ [] → new.lits ≡ old.lits ++ rest
    → ((i : ℕ) → i < length old.lits → get_or new.reasons i 0 ≡ get_or old.reasons i 0)
    → HasRoom new → IsFronted front old → IsFronted front new
fronted_level front old new rest form some starts lits reasons room f =
    let n = length old.lits in
    let long : length new.lits ≡ n + length rest = ap length lits ∙ length-append old.lits rest in
    let in_old = end_within old form in
    let starts_long : length new.starts ≡ length old.starts + 1 = ap length starts
    ∙ length-append old.starts (n ∷ []) in
    let end_same : front_end new ≡ front_end old = ⊎_elim
    (λ lt. end_of new (omega (arith, lt, starts_long)) ∙ (ap (λ xs. get_or xs 1 0) starts
    ∙ (get_or_append_left old.starts (n ∷ []) 0 1 lt ∙ sym (end_of old lt))))
    (λ ge.
    let one : 1 ≡ length old.starts = omega (arith, ge, some) in
    end_of new (omega (arith, some, starts_long)) ∙ (ap (λ xs. get_or xs 1 0) starts
    ∙ (ap (λ k. get_or (old.starts ++ n ∷ []) k 0) one
    ∙ (get_or-append_seam old.starts n [] 0 ∙ sym (end_past old ge)))))
    (cases_lt 1 (length old.starts)) in
    fronted_as front old new
    (ap (λ xs. get_or xs 0 (length new.lits)) starts
    ∙ (get_or_append_left old.starts (n ∷ []) (length new.lits) 0 some
    ∙ (get_or_default old.starts 0 (length new.lits) n some ∙ f.base)))
    (record {
      in_old = in_old;
      in_new = omega (arith, in_old, long);
      lits = λ i d lt. ap (λ xs. get_or xs i d) lits
          ∙ get_or_append_left old.lits rest d i (omega (arith, lt, in_old));
      reasons = λ i lt. reasons i (omega (arith, lt, in_old));
    })
    (omega (arith, end_same))
    (λ i from below lt none. omega (arith, end_same, from, below))
    room f

pub fronted_block : (front : List Lit) (old new : Search) (block : List Lit) → IsSearch old → 0 < length old.starts
    → HasRoom new → GainsBlock old new block → IsFronted front old → IsFronted front new
fronted_block front old new block form some room g f =
    fronted_level front old new g.more.0 form some g.starts g.more.1 g.reasons room f

pub fronted_decided : (front : List Lit) (old new : Search) (lit : Lit) → IsSearch old → 0 < length old.starts
    → HasRoom new → Decides old new lit → IsFronted front old → IsFronted front new
fronted_decided front old new lit form some room g f =
    fronted_level front old new (lit ∷ []) form some g.starts g.lits
    (λ i lt. ap (λ xs. get_or xs i 0) g.reasons
    ∙ get_or-set_other old.reasons (length old.lits) i 0 0 (λ e. let bad : i ≡ length old.lits = e in omega arith))
    room f

-- levels are taken back, but not the first
pub fronted_back : (front : List Lit) (old new : Search) (level : ℕ) → IsSearch old → 0 < level
    → level < length old.starts → HasRoom new → GoesBack old new level → IsFronted front old → IsFronted front new
fronted_back front old new level form pos lt room g f =
    let s = get_or old.starts level 0 in
    let lits : new.lits ≡ take s old.lits = g.lits
    ∙ ap (λ i. take i old.lits) (get_or_default old.starts level (length old.lits) 0 lt) in
    let s_le = form.levels.within level lt in
    let long : length new.lits ≡ s = ap length lits
    ∙ (let e : length (take s old.lits) ≡ s = omega (arith, length-take s old.lits, s_le) in e) in
    let deep : 1 < length old.starts = omega (arith, pos, lt) in
    let end_old = end_of old deep in
    let rise = form.levels.rise 1 level pos lt in
    let starts_long : length new.starts ≡ level = ap length g.starts
    ∙ (let e : length (take level old.starts) ≡ level = omega (arith, length-take level old.starts, lt) in e) in
    let end_same : front_end new ≡ front_end old = ⊎_elim
    (λ (more : 1 < level). end_of new (omega (arith, more, starts_long)) ∙ (ap (λ xs. get_or xs 1 0) g.starts
    ∙ (get_or-take level old.starts 1 0 more ∙ sym end_old)))
    (λ ge.
    let one : level ≡ 1 = omega (arith, ge, pos) in
    end_past new (omega (arith, ge, starts_long)) ∙ (long ∙ (ap (λ k. get_or old.starts k 0) one ∙ sym end_old)))
    (cases_lt 1 level) in
    let end_le : front_end old ≤ s = omega (arith, end_old, rise) in
    fronted_as front old new
    (ap (λ xs. get_or xs 0 (length new.lits)) g.starts
    ∙ (get_or-take level old.starts 0 (length new.lits) pos
    ∙ (get_or_default old.starts 0 (length new.lits) (length old.lits) (omega (arith, deep)) ∙ f.base)))
    (record {
      in_old = omega (arith, end_le, s_le);
      in_new = omega (arith, end_le, long);
      lits = λ i d below. ap (λ xs. get_or xs i d) lits ∙ get_or-take s old.lits i d (omega (arith, below, end_le));
      reasons = λ i below. ap (λ xs. get_or xs i 0) g.reasons;
    })
    (omega (arith, end_same))
    (λ i from below in_new none. omega (arith, end_same, from, below))
    room f

-- all but the first are taken back
pub rests : (front : List Lit) (old new : Search) → IsSearch old → 1 < length old.starts → HasRoom new
    → GoesBack old new 1 → IsFronted front old → IsResting front new
rests front old new form deep room g f = record {
  fronted = fronted_back front old new 1 form (omega arith) deep room g f;
  few =
      let e = ap length g.starts in
      omega (arith, e, length-take 1 old.starts);
}

-- nothing is true
pub fronted_none : (s : Search) → s.lits ≡ [] → s.starts ≡ [] → HasRoom s → IsFronted [] s
fronted_none s lits starts room = record {
  base = ap (λ xs. get_or xs 0 (length s.lits)) starts ∙ ap length lits;
  there = λ l c. absurd (Contains-nil l c);
  free = λ index lt below none d. let e = ap length lits in absurd (omega (arith, e, lt));
  room = room;
}

-- a front begins where nothing is true
pub fronted_new : (old new : Search) (block : List Lit) → old.lits ≡ [] → old.starts ≡ [] → HasRoom new
    → GainsBlock old new block → IsFronted block new × (length new.starts ≡ 1)
    × ((l : Lit) → Contains new.lits l → Contains block l)
fronted_new old new block none levels room g =
    let starts : new.starts ≡ 0 ∷ [] = g.starts ∙ (ap (λ xs. xs ++ length old.lits ∷ []) levels
    ∙ ap (λ xs. length xs ∷ []) none) in
    let one : length new.starts ≡ 1 = ap length starts in
    let lits : new.lits ≡ g.more.0 = g.more.1 ∙ ap (λ xs. xs ++ g.more.0) none in
    let end_is = end_past new (omega (arith, one)) in (
      record {
        base = ap (λ xs. get_or xs 0 (length new.lits)) starts;
        there = λ l c.
            let s = contains_stands new.lits l (g.block_true l c) in
            let within = s.1.within in
            record { index = s.0; stands = s.1; within = omega (arith, end_is, within) };
        free = λ index lt below none d. g.more.2 (get_or new.lits index d) (
          index,
          subst (λ xs. index < length xs) lits lt,
          ap (λ xs. get_or xs index (get_or new.lits index d)) (sym lits)
              ∙ get_or_default new.lits index (get_or new.lits index d) d lt,
        );
        room = room;
      },
      one,
      λ l c. g.more.2 l (subst (λ xs. Contains xs l) lits c),
    )
