-- The state with more room, with lowered marks, and lists that a new clause joins.
use Rattle.std.proofs.Common.{◌≡◌, ◌≢◌, ℕ, ◌<◌, ◌≤◌, ◌+◌, ◌*◌, ◌^◌, List, [], ◌∷◌, ◌++◌, length}
use Rattle.std.proofs.Common.{get_or, take, arith, ap, sym, subst, ◌∙◌, refl, true, length-append}
use Rattle.std.specs.Prelude.{Contains, sum_by, count_by, cond, Result, Ok, Err, OnErr}
use Rattle.std.proofs.lemmas.List.{get_or-set_same, get_or-set_other}
use Rattle.std.proofs.Math.ListN.{set, length-set}
use Rattle.plain_lits.specs.HintCheck.{clause_at, IsUnit}
use Rattle.plain_lits.specs.declared.lit.Lit.{Lit}
use Rattle.plain_lits.specs.Literals.{negation}
use Rattle.plain_lits.specs.Packed.{packed}
use Rattle.unit_propagate.specs.declared.watch_state.Progress.{Progress}
use Rattle.clause_watches.specs.declared.pair.Pair.{Pair}
use Rattle.unit_propagate.specs.Search.{IsReason, StaysSearch, GainsClause, Learns}
use Rattle.unit_propagate.specs.States.{State, has, IsWatching, IsKept, IsLooked, progress_at, no_progress}
use Rattle.clause_watches.specs.Picks.{IsPairOf}
use Rattle.unit_propagate.specs.Steps.{IsLonger, MakesRoom, LowersProgress, Lowers, HasRoomFor, IsLow}
use Rattle.clause_watches.specs.Picks.{IsUnfalse, WatchesLast}
use Rattle.clause_watches.specs.Arenas.{pair_of, no_pair}
use Rattle.std.proofs.Math.Seq.{get_or-append_seam}
use Rattle.unit_propagate.specs.Steps.{IsReady, Inserts, IsImplied, with_literal}
use Rattle.unit_propagate.specs.States.{search_of}
use Rattle.unit_propagate.proofs.Rooms.{longer_same}
use Rattle.clause_watches.proofs.Pairing.{room_same, room_trans}
use Rattle.unit_propagate.proofs.Joining.{kept_added, clause_last}
use Rattle.clause_watches.specs.WatchLists.{Listed, no_list, list_at, ids_at, one, watches, with_id, HasMoreRoom}
use Rattle.clause_watches.specs.WatchLists.{HasPairRoom, Joins}
use Rattle.clause_watches.proofs.Fronts.{longer_front, packed_low}
use Rattle.unit_propagate.proofs.Lists.{weight_with, uses_with, watches_apart, watches_alone, pairs_below, has_there}

abbrev pub roomy : State → List Lit → List ℕ → ℕ → List Listed → List ℕ → List Progress → State
roomy s lits starts vars lists reasons progress = record s {
  lits = lits;
  starts = starts;
  vars = vars;
  lists =
      lists;
  reasons = reasons;
  progress = progress;
}

-- what has room
pub record IsRoomyFor (s : State) (lits : List Lit) (starts : List ℕ) (vars : ℕ) (lists : List Listed)
    (reasons : List ℕ)
    (progress : List Progress) : Type 0 where
  pub new_lits : lits ≡ s.lits
  pub new_starts : starts ≡ s.starts
  pub new_vars : s.vars ≤ vars
  pub new_lists : HasMoreRoom s.lists lists
  pub new_reasons : IsLonger 0 s.reasons reasons
  pub new_marks : IsLonger no_progress s.progress progress
  pub lists_long : 2 * vars ≤ length lists
  pub reasons_long : vars ≤ length reasons
  pub marks_long : vars < length progress

roomy_watching : (s : State) (lists : List Listed) → IsKept s → HasMoreRoom s.lists lists
    → IsWatching s.clauses s.pairs lists
roomy_watching s lists kept h = record {
  long = kept.stored.watching.long;
  paired = kept.stored.watching.paired;
  listed = λ code id. ap (λ xs. sum_by (one id) xs) (h.ids code) ∙ kept.stored.watching.listed code id;
  counted = λ code. ap length (h.ids code) ∙ kept.stored.watching.counted code;
  room = λ code. omega (arith, kept.stored.watching.room code, h.uses code);
}

pub kept_roomy : (s : State) (lits : List Lit) (starts : List ℕ) (vars : ℕ) (lists : List Listed) (reasons : List ℕ)
    (progress : List Progress)
    → IsKept s → IsRoomyFor s lits starts vars lists reasons progress
    → IsKept (roomy s lits starts vars lists reasons progress)
kept_roomy s lits starts vars lists reasons progress kept h =
    let more = h.new_vars in
    let is : IsKept (roomy s s.lits s.starts vars lists reasons progress) = record {
      stored = record {
        watching = roomy_watching s lists kept h.new_lists;
        short = kept.stored.short;
        all_short = kept.stored.all_short;
        room = λ id l named c. let low = kept.stored.room id l named c in omega arith;
        lists_long = h.lists_long;
        ids_fit = kept.stored.ids_fit;
      };
      looked = kept.looked;
      before = λ k lt. subst (λ (m : Progress). IsLooked s.clauses s.pairs s.short (take m.head s.lits)
          (take (get_or s.starts k 0) s.lits) m.done)
          (sym (h.new_marks.same (get_or s.starts k 0))) (kept.before k lt);
      reasons = λ i lt some.
          let same = h.new_reasons.same i in
          subst (λ r. IsReason s.clauses s.lits i r) (sym same) (kept.reasons i lt (λ z. some (same ∙ z)));
      head_within = kept.head_within;
      done_within = kept.done_within;
      reasons_long = h.reasons_long;
      marks = record {
        long = h.marks_long;
        head = λ n. omega (arith, kept.marks.head n, ap (λ (m : Progress). m.head) (h.new_marks.same n));
        done = λ n. omega (arith, kept.marks.done n, ap (λ (m : Progress). m.done) (h.new_marks.same n));
      };
    } in
    rw (h.new_lits, h.new_starts) is

pub makes_room : (s : State) (lits : List Lit) (starts : List ℕ) (vars : ℕ) (lists : List Listed) (reasons : List ℕ)
    (progress : List Progress)
    → IsRoomyFor s lits starts vars lists reasons progress → MakesRoom s
    (roomy s lits starts vars lists reasons progress)
makes_room s lits starts vars lists reasons progress h = record {
  rest = rw (h.new_lits, h.new_starts) refl;
  lists = h.new_lists;
  vars = h.new_vars;
  reasons = h.new_reasons;
  progress = h.new_marks;
  lists_long = h.lists_long;
  reasons_long = h.reasons_long;
  marks_long = h.marks_long;
}

-- how far propagation has come is lowered
looked_lower : (s : State) (n m done : ℕ) (high : List Lit) → n ≤ m
    → IsLooked s.clauses s.pairs s.short (take m s.lits) high done → IsLooked s.clauses s.pairs s.short (take n s.lits)
    high done
looked_lower s n m done high le h = record {
  guarded = λ p there apart. let g = h.guarded p there apart in record {
    first = λ c. g.first (longer_front n m s.lits (negation p.first) le c);
    second = λ c. g.second (longer_front n m s.lits (negation p.second) le c);
  };
  holds = h.holds;
}

pub kept_lowered : (s : State) (progress : List Progress) (head index : ℕ) → IsKept s
    → LowersProgress s.progress progress s.starts 0 index
    → head ≤ s.head → IsKept (record s { progress = progress; head = head })
kept_lowered s progress head index kept h le = record {
  stored = kept.stored;
  looked = looked_lower s head s.head s.done s.lits le kept.looked;
  before = λ k lt.
      let n = get_or s.starts k 0 in
      subst (λ d. IsLooked s.clauses s.pairs s.short (take (progress_at progress n).head s.lits) (take n s.lits) d)
      (sym (h.dones n))
      (looked_lower s (progress_at progress n).head (progress_at s.progress n).head (progress_at s.progress n).done
      (take n s.lits)
      (h.heads n) (kept.before k lt));
  reasons = kept.reasons;
  head_within = let within = kept.head_within in omega arith;
  done_within = kept.done_within;
  reasons_long = kept.reasons_long;
  marks = record {
    long = let long = kept.marks.long in omega (arith, h.long);
    head = λ n. omega (arith, kept.marks.head n, h.heads n);
    done = λ n. omega (arith, kept.marks.done n, h.dones n);
  };
}

-- the lists that a new clause joins
pub joined_two : (lists : List Listed) (p : Pair) (id a b : ℕ) → a ≡ packed p.first → b ≡ packed p.second → a ≢ b
    → a < length lists → b < length lists → Joins lists (with_id (with_id lists a id) b id) p id
joined_two lists p id a b first second ne a_lt b_lt =
    let middle = with_id lists a id in
    let long : length middle ≡ length lists = length-set lists a (record {
      ids = ids_at lists a ++ id ∷ [];
      uses =
          (list_at lists a).uses;
    }) in
    record {
      long = length-set middle b (record { ids = ids_at middle b ++ id ∷ []; uses = (list_at middle b).uses }) ∙ long;
      uses = λ code. uses_with middle b id code ∙ uses_with lists a id code;
      weight = λ f code.
          let apart : packed p.first ≢ packed p.second = λ e. ne (first ∙ (e ∙ sym second)) in
          let counts : watches code p ≡ one a code + one b code = watches_apart code p apart
          ∙ (ap (λ k. one k code + one (packed p.second) code) (sym first) ∙ ap (λ k. one a code + one k code)
          (sym second)) in
          let two = weight_with f middle b id code (omega arith) in
          let first_one = weight_with f lists a id code a_lt in
          let product = ap (λ n. n * f id) counts in
          omega (arith, two, first_one, product);
    }

pub joined_none : (lists : List Listed) (p : Pair) (id : ℕ) → packed p.first ≡ packed p.second → Joins lists lists p id
joined_none lists p id same = record {
  long = refl;
  uses = λ code. refl;
  weight = λ f code. let none = ap (λ n. n * f id) (watches_alone code p same) in omega (arith, none);
}

-- and the room there
pub room_pair : (s : State) (clause : List Lit) (p : Pair) → IsKept s → HasRoomFor s clause
    → ((l : Lit) → Contains clause l → l.var < s.vars) → IsPairOf clause p → HasPairRoom s.lists p
room_pair s clause p kept room known is =
    let long = kept.stored.lists_long in
    let below : (code : ℕ) → length (ids_at s.lists code) ≤ count_by (has code) s.clauses = λ code.
    omega (
      arith,
      kept.stored.watching.counted code,
      pairs_below code s.clauses s.pairs kept.stored.watching.long
          kept.stored.watching.paired,
    ) in
    record {
      first = λ ne.
          let needs : count_by (has (packed p.first)) s.clauses + cond true 1
          0 ≤ (list_at s.lists (packed p.first)).uses =
          rw (has_there clause p.first (is.first ne)) at (room.uses (packed p.first)) in
          let low = packed_low p.first s.vars (known p.first (is.first ne)) in
          (omega arith, omega (arith, needs, below (packed p.first)));
      second = λ ne.
          let needs : count_by (has (packed p.second)) s.clauses + cond true 1
          0 ≤ (list_at s.lists (packed p.second)).uses =
          rw (has_there clause p.second (is.second ne)) at (room.uses (packed p.second)) in
          let low = packed_low p.second s.vars (known p.second (is.second ne)) in
          (omega arith, omega (arith, needs, below (packed p.second)));
    }

-- where the first id has come, there is still room for the second
pub room_second : (lists : List Listed) (p : Pair) (id a b : ℕ) → a ≢ b
    → length (ids_at lists b) < (list_at lists b).uses
    → length (ids_at (with_id lists a id) b) < (list_at (with_id lists a id) b).uses
room_second lists p id a b ne room =
    let same : list_at (with_id lists a id) b ≡ list_at lists b = get_or-set_other lists a b _ no_list (λ e. ne (sym e))
    in
    subst (λ (l : Listed). length l.ids < l.uses) (sym same) room

pub long_second : (lists : List Listed) (a id b : ℕ) → b < length lists → b < length (with_id lists a id)
long_second lists a id b lt =
    omega (arith, length-set lists a (record { ids = ids_at lists a ++ id ∷ []; uses = (list_at lists a).uses }))

-- nothing is changed
pub makes_same : (s : State) → IsKept s → MakesRoom s s
makes_same s kept = record {
  rest = refl;
  lists = room_same s.lists;
  vars = omega arith;
  reasons = longer_same 0 s.reasons s.reasons refl;
  progress = longer_same no_progress s.progress s.progress refl;
  lists_long = kept.stored.lists_long;
  reasons_long = kept.reasons_long;
  marks_long = kept.marks.long;
}

-- more room in the lists alone
pub kept_lists : (s : State) (lists : List Listed) → IsKept s → HasMoreRoom s.lists lists
    → IsKept (record s { lists = lists })
kept_lists s lists kept h =
    let long = h.long in
    let old = kept.stored.lists_long in
    kept_roomy s s.lits s.starts s.vars lists s.reasons s.progress kept (record {
      new_lits = refl;
      new_starts = refl;
      new_vars = omega arith;
      new_lists = h;
      new_reasons = longer_same 0 s.reasons s.reasons refl;
      new_marks = longer_same no_progress s.progress s.progress refl;
      lists_long = omega arith;
      reasons_long = kept.reasons_long;
      marks_long = kept.marks.long;
    })

pub makes_claim : (s m : State) (lists : List Listed) → MakesRoom s m → HasMoreRoom m.lists lists
    → MakesRoom s (record m { lists = lists })
makes_claim s m lists h more =
    let long = more.long in
    let old = h.lists_long in
    record {
      rest = ap (λ (n : State). record n { lists = lists }) h.rest;
      lists = room_trans s.lists m.lists lists h.lists more;
      vars = h.vars;
      reasons = h.reasons;
      progress = h.progress;
      lists_long = omega arith;
      reasons_long = h.reasons_long;
      marks_long = h.marks_long;
    }

-- what callers see of that
pub stays_room : (s m : State) → MakesRoom s m → StaysSearch (search_of s) (search_of m)
stays_room s m h = record {
  clauses = ap (λ (n : State). n.clauses) h.rest;
  pairs = ap (λ (n : State). n.pairs) h.rest;
  assigned = record {
    lits = ap (λ (n : State). n.lits) h.rest;
    starts = ap (λ (n : State). n.starts) h.rest;
    reasons = λ i lt. h.reasons.same i;
    vars = h.vars;
  };
}

pub stays_lowered : (s m w : State) (index : ℕ) → StaysSearch (search_of s) (search_of m) → Lowers m w index
    → StaysSearch (search_of s) (search_of w)
stays_lowered s m w index h low = subst (λ (n : State). StaysSearch (search_of s) (search_of n)) (sym low.rest) h

pub low_lowered : (m w : State) (index : ℕ) → Lowers m w index → IsLow w index
low_lowered m w index low =
    let is : IsLow (record m { progress = w.progress; head = w.head }) index =
    record { head = low.head_low; progress = low.marks_low } in
    subst (λ (n : State). IsLow n index) (sym low.rest) is

pub ready_lowered : (m w : State) (index : ℕ) (clause : List Lit) → Lowers m w index → IsReady m clause
    → IsReady w clause
ready_lowered m w index clause low ready =
    let is : IsReady (record m { progress = w.progress; head = w.head }) clause =
    record { known = ready.known; packs = ready.packs; room = record { uses = ready.room.uses } } in
    subst (λ (n : State). IsReady n clause) (sym low.rest) is

pub unfalse_lowered : (m w : State) (index n : ℕ) (l x : Lit) → Lowers m w index → index ≤ n → l ≡ x
    → IsUnfalse m.lits l n → IsUnfalse w.lits x index
unfalse_lowered m w index n l x low le e h =
    let lits = ap (λ (s : State). s.lits) low.rest in
    subst (λ xs. IsUnfalse xs x index) (sym lits) (subst (λ y. IsUnfalse m.lits y index) e
    (record { unfalse = λ c. h.unfalse (longer_front index n m.lits (negation l) le c) }))

-- a pair that has come is that of the last id
pub last_pair : (pairs : List Pair) (p : Pair) (id : ℕ) → id ≡ length pairs + 1 → pair_of (pairs ++ p ∷ []) id ≡ p
last_pair pairs p id e =
    let seam : get_or ((no_pair ∷ pairs) ++ p ∷ []) (length (no_pair ∷ pairs)) no_pair ≡ p =
    get_or-append_seam (no_pair ∷ pairs) p [] no_pair in
    let at : id ≡ length (no_pair ∷ pairs) = omega arith in
    ap (λ k. pair_of (pairs ++ p ∷ []) k) at ∙ seam

-- so its clause watches it
pub watched_last : (m n : State) (clause : List Lit) (p : Pair) (id : ℕ) → IsKept m → n.pairs ≡ m.pairs ++ p ∷ []
    → id ≡ length m.clauses + 1 → WatchesLast m.lits clause p → WatchesLast m.lits clause (pair_of n.pairs id)
watched_last m n clause p id kept e is h =
    let long = kept.stored.watching.long in
    subst (WatchesLast m.lits clause) (sym (ap (λ ps. pair_of ps id) e ∙ last_pair m.pairs p id (omega arith))) h

pub gains : (s w new : State) (clause : List Lit) (id : ℕ) → StaysSearch (search_of s) (search_of w)
    → Inserts w new clause
    → IsReady w clause → id ≡ length w.clauses + 1 → WatchesLast s.lits clause (pair_of new.pairs id)
    → GainsClause (search_of s) (search_of new) clause id
gains s w new clause id h i ready id_is watched =
    let a = h.assigned in
    let vars = a.vars in
    record {
      clauses = i.clauses ∙ ap (λ xs. xs ++ clause ∷ []) h.clauses;
      id_is = omega (arith, id_is, ap length i.clauses, length-append w.clauses (clause ∷ []));
      known = λ l c. omega (arith, ready.known l c, i.vars);
      watched = watched;
      assigned = record {
        lits = i.lits ∙ a.lits;
        starts = i.starts ∙ a.starts;
        reasons = λ k lt. ap (λ xs. get_or xs k 0) i.reasons ∙ a.reasons k lt;
        vars = omega (arith, vars, i.vars);
      };
    }

-- a clause has come, by what the arrays become
pub inserted : (s : State) (clauses : List (List Lit)) (pairs : List Pair) (lists : List Listed) (short : List ℕ)
    (clause : List Lit)
    (p q : Pair) (id index : ℕ) → IsKept s → IsReady s clause → IsPairOf clause q → id ≡ length s.clauses + 1
    → id < 2 ^ 32 → IsLow s index
    → IsUnfalse s.lits q.first index → IsUnfalse s.lits q.second index → q ≡ p → clauses ≡ s.clauses ++ clause ∷ []
    → pairs ≡ s.pairs ++ q ∷ [] → Joins s.lists lists p id
    → (p.first ≡ p.second → short ≡ s.short ++ id ∷ []) → (p.first ≢ p.second → short ≡ s.short)
    → IsKept (record s { clauses = clauses; pairs = pairs; lists = lists; short = short })
inserted s clauses pairs lists short clause p q id index kept ready pair id_is fits low first second same clauses_are
    pairs_are joins alone apart =
    rw (clauses_are, pairs_are, same) (kept_added s lists short clause p id index kept (record {
      pair = subst (IsPairOf clause) same pair;
      id_is = id_is;
      fits = fits;
      known = ready.known;
      first = subst (λ (r : Pair). IsUnfalse s.lits r.first index) same first;
      second = subst (λ (r : Pair). IsUnfalse s.lits r.second index) same second;
      head = low.head;
      progress = low.progress;
      room = ready.room;
      joins = joins;
      alone = alone;
      apart = apart;
    }) joins.long)

-- what holds holds after a failure too
pub on_err : {T E : Type 0} (r : Result T E) (P : Type 0) → P → OnErr r P
on_err (Ok x) P h = tt
on_err (Err e) P h = h

pub stays_same : (s w new : State) → StaysSearch (search_of s) (search_of w) → new ≡ w
    → StaysSearch (search_of s) (search_of new)
stays_same s w new h e = subst (λ (n : State). StaysSearch (search_of s) (search_of n)) (sym e) h

pub inserts : (s pre new : State) (clause : List Lit) (lists : List Listed) (short : List ℕ) → new
    ≡ record pre { lists = lists; short = short }
    → pre.clauses ≡ s.clauses ++ clause ∷ [] → pre.lits ≡ s.lits → pre.starts ≡ s.starts → pre.vars ≡ s.vars
    → pre.reasons ≡ s.reasons
    → Inserts s new clause
inserts s pre new clause lists short e clauses lits starts vars reasons = record {
  clauses = ap (λ (n : State). n.clauses) e ∙ clauses;
  lits = ap (λ (n : State). n.lits) e ∙ lits;
  starts = ap (λ (n : State). n.starts) e ∙ starts;
  vars = ap (λ (n : State). n.vars) e ∙ vars;
  reasons = ap (λ (n : State). n.reasons) e ∙ reasons;
}

-- a clause that has come implies its literal
pub learned_implied : (s m : State) (clause : List Lit) (lit : Lit) (id : ℕ) → GainsClause (search_of s) (search_of m)
    clause id
    → IsUnit negation s.lits clause lit → IsImplied m lit id
learned_implied s m clause lit id g unit =
    let long : length m.clauses ≡ length s.clauses + 1 = ap length g.clauses ∙ length-append s.clauses (clause ∷ []) in
    let is : clause_at m.clauses id ≡ clause = ap (λ cs. clause_at cs id) g.clauses ∙ clause_last s.clauses clause id
    (g.id_is ∙ long) in
    let lits = g.assigned.lits in
    record {
      named = record { from_one = omega (arith, g.id_is, long); within = omega (arith, g.id_is) };
      there = subst (λ xs. Contains xs lit) (sym is) unit.there;
      others = λ x c ne. subst (λ xs. Contains xs (negation x)) (sym lits)
          (unit.others x (subst (λ xs. Contains xs x) is c) ne);
    }

pub learns : (s m new : State) (clause : List Lit) (lit : Lit) (id : ℕ) → GainsClause (search_of s) (search_of m) clause
    id
    → length m.lits < length m.reasons → new ≡ with_literal m lit id → Learns (search_of s) (search_of new) clause lit
    id
learns s m new clause lit id g within e =
    let lits = g.assigned.lits in
    let vars = g.assigned.vars in
    let is : Learns (search_of s) (search_of (with_literal m lit id)) clause lit id = record {
      clauses = g.clauses;
      id_is = g.id_is;
      watched = g.watched;
      lits = ap (λ xs. xs ++ lit ∷ []) lits;
      starts = g.assigned.starts;
      reasons = λ i lt. get_or-set_other m.reasons (length m.lits) i id 0 (λ same. let bad : i ≡ length m.lits = same in
          omega (arith, ap length lits)) ∙ g.assigned.reasons i lt;
      reason = ap (λ k. get_or (set m.reasons (length m.lits) id) k 0) (sym (ap length lits))
          ∙ get_or-set_same m.reasons (length m.lits) id 0 within;
      vars = vars;
    } in
    subst (λ (n : State). Learns (search_of s) (search_of n) clause lit id) (sym e) is
