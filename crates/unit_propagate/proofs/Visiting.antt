-- What a visit of a clause changes: its watch moves, or a literal comes.
use Rattle.std.proofs.Common.{◌≡◌, ◌≢◌, ℕ, ◌<◌, ◌≤◌, ◌+◌, ◌-◌, List, [], ◌∷◌, ◌++◌, length}
use Rattle.std.proofs.Common.{get_or, take, arith, ap, sym, subst, ◌∙◌, refl, ⊎_elim, length-append}
use Rattle.std.proofs.Common.{length-take}
use Rattle.std.specs.Prelude.{Contains, Some, None}
use Rattle.std.specs.List.{swap_remove}
use Rattle.std.proofs.Math.ListN.{set, length-set}
use Rattle.std.proofs.Math.Seq.{get_or-append_seam}
use Rattle.std.proofs.lemmas.List.{get_or-set_same, get_or-set_other, get_or-take, get_or_append_left}
use Rattle.std.proofs.lemmas.List.{take-append-le, append-nil, append_assoc}
use Rattle.std.proofs.Math.Seq.{take-append_seam}
use Rattle.std.proofs.lemmas.List.Elements.{Contains-append_left}
use Rattle.std.proofs.lemmas.Bool.{cases_lt, cases_eq}
use Rattle.lists.proofs.Membership.{Contains-pushed}
use Rattle.plain_lits.specs.declared.lit.Lit.{Lit}
use Rattle.plain_lits.specs.Literals.{negation}
use Rattle.plain_lits.specs.Packed.{packed}
use Rattle.plain_lits.specs.Trails.{VarsDiffer, AreLevels}
use Rattle.plain_lits.specs.HintCheck.{clause_at, IsNamed}
use Rattle.clause_watches.specs.declared.pair.Pair.{Pair}
use Rattle.clause_watches.specs.Arenas.{pair_of}
use Rattle.unit_propagate.specs.Search.{IsReason, IsConflict}
use Rattle.unit_propagate.specs.States.{State, IsKept, IsLooked, HasTrue}
use Rattle.unit_propagate.specs.States.{progress_at}
use Rattle.unit_propagate.specs.Steps.{IsWatcher, with_pair, with_literal, AreDone, Grows, IsImplied, IsVisit}
use Rattle.clause_watches.specs.declared.finding.NewWatch.{NewWatch}
use Rattle.clause_watches.specs.Picks.{FindsWatch}
use Rattle.unit_propagate.specs.declared.watch_state.Visit.TheVariants.{Kept, Moved}
use Rattle.plain_lits.specs.declared.value.Value.{Value}
use Rattle.plain_lits.specs.declared.value.Value.TheVariants.{True, False, Unset}
use Rattle.plain_lits.specs.Values.{IsValueIn}
use Rattle.clause_watches.specs.WatchLists.{Listed, no_list, list_at, ids_at, one, without}
use Rattle.clause_watches.proofs.Fronts.{packed_same, packed_low}
use Rattle.unit_propagate.proofs.Lists.{one_same, one_other, length_moved}
use Rattle.unit_propagate.proofs.Moving.{IsMove, pair_with, moved_pairs, moved_lists, here_other}
use Rattle.unit_propagate.proofs.Moving.{pair_set_other, move_codes, kept_moved}

-- the list of the false literal after a move
moved_ids : (s : State) (at id : ℕ) (f to : Lit) → packed f ≢ packed to → packed f < length s.lists
    → ids_at (moved_lists s at id f to) (packed f) ≡ swap_remove (ids_at s.lists (packed f)) at 0
moved_ids s at id f to ne lt =
    ap (λ (l : Listed). l.ids) (get_or-set_other (without s.lists (packed f) at) (packed to) (packed f) _ no_list ne)
    ∙ ap (λ (l : Listed). l.ids) (get_or-set_same s.lists (packed f) _ no_list lt)

swap_front : (xs : List ℕ) (at i : ℕ) → i < at → i < length (swap_remove xs at 0) → get_or (swap_remove xs at 0) i 0
    ≡ get_or xs i 0
swap_front xs at i lt within =
    let ys = set xs at (get_or xs (length xs - 1) 0) in
    let below : i < length xs - 1 = omega (arith, length-take (length xs - 1) ys) in
    get_or-take (length xs - 1) ys i 0 below ∙ get_or-set_other xs at i (get_or xs (length xs - 1) 0) 0
    (λ e. let bad : i ≡ at = e in omega arith)

pub moved_length : (s : State) (at id : ℕ) (f o to : Lit) → IsMove s at id f o to → packed f < length s.lists
    → packed to < length s.lists
    → length (ids_at (moved_lists s at id f to) (packed f)) + 1 ≡ length (ids_at s.lists (packed f))
moved_length s at id f o to m lt lt2 =
    let count = length_moved s.lists (packed f) at (packed to) (packed f) lt lt2 m.here.within in
    let moved : length (ids_at (moved_lists s at id f to) (packed f)) + one (packed f) (packed f)
    ≡ length (ids_at s.lists (packed f)) + one (packed to) (packed f) =
    subst (λ k. length (ids_at (moved_lists s at k f to) (packed f)) + one (packed f) (packed f)
    ≡ length (ids_at s.lists (packed f)) + one (packed to) (packed f)) m.here.id_is count in
    omega (
      arith,
      moved,
      one_same (packed f),
      one_other (packed to) (packed f)
          (λ e. move_codes s at id f o to m (sym e)),
    )

-- the clauses before it in the list stay done: it isn't one of them, since its other literal isn't true
pub done_moved : (s : State) (at id : ℕ) (f o to : Lit) → IsMove s at id f o to → (Contains s.lits o → ⊥)
    → packed f < length s.lists → AreDone s f at → AreDone (with_pair s id (pair_with o to) (packed f) at (packed to)) f
    at
done_moved s at id f o to m not_true lt h =
    let ids = ids_at s.lists (packed f) in
    let is = moved_ids s at id f to (move_codes s at id f o to m) lt in
    let above = m.here.named.from_one in
    let same : (i : ℕ) → i < at → i < length (ids_at (moved_lists s at id f to) (packed f))
    → get_or (ids_at (moved_lists s at id f to) (packed f)) i 0 ≡ get_or ids i 0 =
    λ i i_lt within. ap (λ xs. get_or xs i 0) is ∙ swap_front ids at i i_lt (subst (λ xs. i < length xs) is within) in
    let in_old : (i : ℕ) → i < at → i < length ids = λ i i_lt. let w = m.here.within in omega arith in
    let other : (i : ℕ) → i < at → get_or ids i 0 ≢ id = λ i i_lt e. ⊎_elim
    (λ p. not_true (subst (Contains s.lits) p.1 (subst (λ k. Contains s.lits (pair_of s.pairs k).second) e
    (h.first i i_lt (in_old i i_lt) (ap (λ k. (pair_of s.pairs k).first) e ∙ p.0)))))
    (λ p. not_true (subst (Contains s.lits) p.0 (subst (λ k. Contains s.lits (pair_of s.pairs k).first) e
    (h.second i i_lt (in_old i i_lt) (ap (λ k. (pair_of s.pairs k).second) e ∙ p.1)))))
    m.here.pair in
    let pair : (i : ℕ) → i < at → i < length (ids_at (moved_lists s at id f to) (packed f))
    → pair_of (moved_pairs s id o to) (get_or (ids_at (moved_lists s at id f to) (packed f)) i 0)
    ≡ pair_of s.pairs (get_or ids i 0) =
    λ i i_lt within. ap (λ k. pair_of (moved_pairs s id o to) k) (same i i_lt within)
    ∙ pair_set_other s.pairs id (get_or ids i 0) (pair_with o to) above (other i i_lt) in
    record {
      first = λ i i_lt within e. subst (λ (p : Pair). Contains s.lits p.second) (sym (pair i i_lt within))
          (h.first i i_lt (in_old i i_lt) (subst (λ (p : Pair). p.first ≡ f) (pair i i_lt within) e));
      second = λ i i_lt within e. subst (λ (p : Pair). Contains s.lits p.first) (sym (pair i i_lt within))
          (h.second i i_lt (in_old i i_lt) (subst (λ (p : Pair). p.second ≡ f) (pair i i_lt within) e));
    }

-- one clause more is done, whose other literal is true
pub done_next : (s : State) (at id : ℕ) (f o : Lit) → IsWatcher s at id f o → Contains s.lits o → AreDone s f at
    → AreDone s f (at + 1)
done_next s at id f o here true_other h =
    let ids = ids_at s.lists (packed f) in
    record {
      first = λ i lt within e. ⊎_elim
          (λ less. h.first i less within e)
          (λ more.
          let last : i ≡ at = omega arith in
          let is : get_or ids i 0 ≡ id = ap (λ k. get_or ids k 0) last ∙ here.id_is in
          subst (λ k. Contains s.lits (pair_of s.pairs k).second) (sym is) (⊎_elim
          (λ p. subst (Contains s.lits) (sym p.1) true_other)
          (λ p. absurd (here.apart (sym (subst (λ k. (pair_of s.pairs k).first ≡ f) is e) ∙ p.0)))
          here.pair))
          (cases_lt i at);
      second = λ i lt within e. ⊎_elim
          (λ less. h.second i less within e)
          (λ more.
          let last : i ≡ at = omega arith in
          let is : get_or ids i 0 ≡ id = ap (λ k. get_or ids k 0) last ∙ here.id_is in
          subst (λ k. Contains s.lits (pair_of s.pairs k).first) (sym is) (⊎_elim
          (λ p. absurd (here.apart (sym (subst (λ k. (pair_of s.pairs k).second ≡ f) is e) ∙ p.1)))
          (λ p. subst (Contains s.lits) (sym p.0) true_other)
          here.pair))
          (cases_lt i at);
    }

-- what is done stays so as a literal comes
pub done_literal : (s : State) (l : Lit) (id : ℕ) (f : Lit) (at : ℕ) → AreDone s f at → AreDone (with_literal s l id) f
    at
done_literal s l id f at h = record {
  first = λ i lt within e. Contains-append_left s.lits (l ∷ []) _ (h.first i lt within e);
  second = λ i lt within e. Contains-append_left s.lits (l ∷ []) _ (h.second i lt within e);
}

pub looked_higher : (clauses : List (List Lit)) (pairs : List Pair) (short : List ℕ) (low high higher : List Lit)
    (done : ℕ)
    → ((l : Lit) → Contains high l → Contains higher l) → IsLooked clauses pairs short low high done
    → IsLooked clauses pairs short low higher done
looked_higher clauses pairs short low high higher done more h = record {
  guarded = λ p there apart. let g = h.guarded p there apart in record {
    first = λ c. more p.second (g.first c);
    second = λ c. more p.first (g.second c);
  };
  holds = λ id c. let t = (h.holds id c).some in record { some = (t.0, t.1, more t.0 t.2) };
}

pub reason_longer : (clauses : List (List Lit)) (lits rest : List Lit) (i id : ℕ) → i < length lits
    → IsReason clauses lits i id → IsReason clauses (lits ++ rest) i id
reason_longer clauses lits rest i id lt h = record {
  named = h.named;
  there = λ d. subst (Contains (clause_at clauses id)) (sym (get_or_append_left lits rest d i lt)) (h.there d);
  others = λ l d c ne. subst (λ xs. Contains xs (negation l)) (sym (take-append-le i lits rest (omega arith)))
      (h.others l d c (λ e. ne (e ∙ sym (get_or_append_left lits rest d i lt))));
}

reason_new : (s : State) (l : Lit) (id : ℕ) → IsImplied s l id → IsReason s.clauses (s.lits ++ l ∷ []) (length s.lits)
    id
reason_new s l id h = record {
  named = h.named;
  there = λ d. subst (Contains (clause_at s.clauses id)) (sym (get_or-append_seam s.lits l [] d)) h.there;
  others = λ x d c ne. subst (λ xs. Contains xs (negation x)) (sym (take-append_seam s.lits (l ∷ [])))
      (h.others x c (λ e. ne (e ∙ sym (get_or-append_seam s.lits l [] d))));
}

-- a literal comes, implied by a clause or without a reason
pub kept_literal : (s : State) (l : Lit) (id : ℕ) → IsKept s → AreLevels s.starts (length s.lits)
    → length s.lits < s.vars
    → (id ≢ 0 → IsImplied s l id) → IsKept (with_literal s l id)
kept_literal s l id kept levels before implied =
    let more : (x : Lit) → Contains s.lits x → Contains (s.lits ++ l ∷ []) x = λ x c. Contains-append_left s.lits
    (l ∷ []) x c in
    let in_reasons : length s.lits < length s.reasons = let long = kept.reasons_long in omega arith in
    record {
      stored = kept.stored;
      looked = rw (take-append-le s.head s.lits (l ∷ []) kept.head_within)
          (looked_higher s.clauses s.pairs s.short (take s.head s.lits) s.lits (s.lits ++ l ∷ []) s.done more
          kept.looked);
      before = λ k lt.
          let n = get_or s.starts k 0 in
          let low : n ≤ length s.lits = levels.within k lt in
          let head = kept.marks.head n in
          let lower : (progress_at s.progress n).head ≤ length s.lits = omega arith in
          rw (
            take-append-le n s.lits (l ∷ []) low,
            take-append-le (progress_at s.progress n).head s.lits (l ∷ [])
                lower,
          )
          (kept.before k lt);
      reasons = λ i lt some. ⊎_elim
          (λ old.
          let same : get_or (set s.reasons (length s.lits) id) i 0 ≡ get_or s.reasons i 0 =
          get_or-set_other s.reasons (length s.lits) i id 0 (λ e. let bad : i ≡ length s.lits = e in omega arith) in
          subst (λ r. IsReason s.clauses (s.lits ++ l ∷ []) i r) (sym same) (reason_longer s.clauses s.lits (l ∷ []) i
          (get_or s.reasons i 0) old (kept.reasons i old (λ z. some (same ∙ z)))))
          (λ new.
          let last : i ≡ length s.lits = omega (arith, length-append s.lits (l ∷ [])) in
          let is : get_or (set s.reasons (length s.lits) id) i 0 ≡ id =
          ap (λ k. get_or (set s.reasons (length s.lits) id) k 0) last ∙ get_or-set_same s.reasons (length s.lits)
          id 0 in_reasons in
          subst (λ r. IsReason s.clauses (s.lits ++ l ∷ []) i r) (sym is)
          (subst (λ k. IsReason s.clauses (s.lits ++ l ∷ []) k id) (sym last)
          (reason_new s l id (implied (λ z. some (is ∙ z))))))
          (cases_lt i (length s.lits));
      head_within = let within = kept.head_within in omega (arith, length-append s.lits (l ∷ []));
      done_within = kept.done_within;
      reasons_long = let long = kept.reasons_long in omega (arith, length-set s.reasons (length s.lits) id);
      marks = kept.marks;
    }

-- so the state has grown
pub grows_same : (s : State) → Grows s s
grows_same s = record {
  clauses = refl;
  starts = refl;
  vars = refl;
  short = refl;
  lists = refl;
  more = ([], sym (append-nil s.lits));
  reasons = λ i lt. refl;
  new_reasons = λ i le lt. absurd (omega arith);
}

pub grows_literal : (s : State) (l : Lit) (id : ℕ) → length s.lits < length s.reasons → id ≢ 0
    → Grows s (with_literal s l id)
grows_literal s l id within some = record {
  clauses = refl;
  starts = refl;
  vars = refl;
  short = refl;
  lists = refl;
  more = (l ∷ [], refl);
  reasons = λ i lt. get_or-set_other s.reasons (length s.lits) i id 0 (λ e. let bad : i ≡ length s.lits = e in
      omega arith);
  new_reasons = λ i le lt.
      let last : i ≡ length s.lits = omega (arith, length-append s.lits (l ∷ [])) in
      λ z. some (sym (ap (λ k. get_or (set s.reasons (length s.lits) id) k 0) last
      ∙ get_or-set_same s.reasons (length s.lits) id 0 within) ∙ z);
}

pub grows_moved : (s : State) (id : ℕ) (p : Pair) (from at to : ℕ) → Grows s (with_pair s id p from at to)
grows_moved s id p from at to = record {
  clauses = refl;
  starts = refl;
  vars = refl;
  short = refl;
  lists = length-set (without s.lists from at) to (record {
    ids = ids_at (without s.lists from at) to ++ id ∷ [];
    uses =
        (list_at (without s.lists from at) to).uses;
  })
      ∙ length-set s.lists from (record {
        ids = swap_remove (ids_at s.lists from) at 0;
        uses =
            (list_at s.lists from).uses;
      });
  more = ([], sym (append-nil s.lits));
  reasons = λ i lt. refl;
  new_reasons = λ i le lt. absurd (omega arith);
}

-- twice grown
pub grows_trans : (a b c : State) → Grows a b → Grows b c → Grows a c
grows_trans a b c g h =
    let r = g.more in
    let t = h.more in
    let long : length b.lits ≡ length a.lits + length r.0 = ap length r.1 ∙ length-append a.lits r.0 in
    record {
      clauses = h.clauses ∙ g.clauses;
      starts = h.starts ∙ g.starts;
      vars = h.vars ∙ g.vars;
      short = h.short ∙ g.short;
      lists = h.lists ∙ g.lists;
      more = (r.0 ++ t.0, t.1 ∙ (ap (λ xs. xs ++ t.0) r.1 ∙ append_assoc a.lits r.0 t.0));
      reasons = λ i lt. h.reasons i (omega arith) ∙ g.reasons i lt;
      new_reasons = λ i le lt. ⊎_elim
          (λ old. λ z. g.new_reasons i le old (sym (h.reasons i old) ∙ z))
          (λ new. h.new_reasons i new lt)
          (cases_lt i (length b.lits));
    }

-- a clause whose literals are false but for the other watched one, and that one too, is false
pub fails : (s : State) (at id : ℕ) (f o : Lit) → IsWatcher s at id f o
    → ((x : Lit) → Contains (clause_at s.clauses id) x → packed x ≢ packed o → Contains s.lits (negation x))
    → Contains s.lits (negation o) → IsConflict s.clauses s.lits id
fails s at id f o here others false_other = record {
  named = here.named;
  all_false = record {
    each = λ x c. ⊎_elim
        (λ e. subst (λ l. Contains s.lits (negation l)) (sym (packed_same x o e)) false_other)
        (λ ne. others x c ne)
        (cases_eq (packed x) (packed o));
  };
}

-- and that one unset is implied
pub implied_here : (s : State) (at id : ℕ) (f o : Lit) → IsKept s → IsWatcher s at id f o
    → ((x : Lit) → Contains (clause_at s.clauses id) x → packed x ≢ packed o → Contains s.lits (negation x))
    → IsImplied s o id
implied_here s at id f o kept here others = record {
  named = here.named;
  there = here_other s at id f o kept here;
  others = λ x c ne. others x c (λ e. ne (packed_same x o e));
}

-- the look for another literal, read over the other literal by itself
pub move_of : (s : State) (at id code : ℕ) (f o : Lit) (found : NewWatch) → IsWatcher s at id f o
    → code ≡ packed o → FindsWatch s.lits (clause_at s.clauses id) code (Some found)
    → Contains s.lits (negation f) → VarsDiffer s.lits → IsMove s at id f o found.lit
move_of s at id code f o found here code_is h false_now vars = record {
  here = here;
  there = h.0;
  apart = λ e. h.1 (e ∙ sym code_is);
  not_false = h.2;
  falsified = false_now;
  vars = vars;
}

pub others_of : (s : State) (id code : ℕ) (o : Lit) → code ≡ packed o
    → FindsWatch s.lits (clause_at s.clauses id) code None
    → (x : Lit) → Contains (clause_at s.clauses id) x → packed x ≢ packed o → Contains s.lits (negation x)
others_of s id code o code_is none x c ne = none x c (λ e. ne (e ∙ code_is))

-- each literal of a clause has a list
pub lit_listed : (s : State) (id : ℕ) (l : Lit) → IsKept s → IsNamed s.clauses id → Contains (clause_at s.clauses id) l
    → packed l < length s.lists
lit_listed s id l kept named c =
    let long = kept.stored.lists_long in
    let low = packed_low l s.vars (kept.stored.room id l named c) in
    omega arith

-- the state and the visit after a move, by what it becomes
pub moved_kept : (s new : State) (at id code : ℕ) (f o to : Lit) → IsKept s → IsMove s at id f o to
    → code ≡ packed f → code < length s.lists
    → new ≡ with_pair s id (pair_with o to) code at (packed to) → IsKept new
moved_kept s new at id code f o to kept m code_is lt e =
    let from : packed f < length s.lists = subst (λ k. k < length s.lists) code_is lt in
    subst IsKept (sym (e ∙ ap (λ k. with_pair s id (pair_with o to) k at (packed to)) code_is))
    (kept_moved s at id f o to kept m from (lit_listed s id to kept m.here.named m.there))

pub moved_visit : (s new : State) (at id code : ℕ) (f o to : Lit) → IsKept s → IsMove s at id f o to
    → (Contains s.lits o → ⊥) → AreDone s f at → code ≡ packed f → code < length s.lists
    → new ≡ with_pair s id (pair_with o to) code at (packed to) → IsVisit s new f at Moved
moved_visit s new at id code f o to kept m not_true done code_is lt e =
    let from : packed f < length s.lists = subst (λ k. k < length s.lists) code_is lt in
    subst (λ n. IsVisit s n f at Moved)
    (sym (e ∙ ap (λ k. with_pair s id (pair_with o to) k at (packed to)) code_is)) (
      done_moved s at id f o to m not_true from done,
      moved_length s at id f o to m from
          (lit_listed s id to kept m.here.named m.there),
    )

-- and after a literal has come
pub implied_kept : (s new : State) (at id : ℕ) (f o l : Lit) → IsKept s → IsWatcher s at id f o
    → ((x : Lit) → Contains (clause_at s.clauses id) x → packed x ≢ packed o → Contains s.lits (negation x))
    → l ≡ o → AreLevels s.starts (length s.lits) → length s.lits < s.vars → new ≡ with_literal s l id → IsKept new
implied_kept s new at id f o l kept here others l_is levels before e =
    subst IsKept (sym (e ∙ ap (λ x. with_literal s x id) l_is))
    (kept_literal s o id kept levels before (λ _. implied_here s at id f o kept here others))

pub implied_visit : (s new : State) (at id : ℕ) (f o l : Lit) → IsWatcher s at id f o → AreDone s f at
    → l ≡ o → new ≡ with_literal s l id → IsVisit s new f at Kept
implied_visit s new at id f o l here done l_is e =
    subst (λ n. IsVisit s n f at Kept) (sym (e ∙ ap (λ x. with_literal s x id) l_is)) (
      done_next (with_literal s o id) at id f o
          (record {
            within = here.within;
            id_is = here.id_is;
            named = here.named;
            apart = here.apart;
            pair =
                here.pair;
          })
          (Contains-pushed s.lits o o refl) (done_literal s o id f at done),
      refl,
    )

pub grown_literal : (s new : State) (l : Lit) (id : ℕ) → IsKept s → IsNamed s.clauses id → length s.lits < s.vars
    → new ≡ with_literal s l id → Grows s new
grown_literal s new l id kept named before e =
    let long = kept.reasons_long in
    let above = named.from_one in
    subst (Grows s) (sym e) (grows_literal s l id (omega arith) (λ z. let bad : id ≡ 0 = z in omega arith))

pub false_value : (lits : List Lit) (l : Lit) (v : Value) → IsValueIn lits l v → v ≢ Unset → (Contains lits l → ⊥)
    → Contains lits (negation l)
false_value lits l True h ne open_lit = absurd (open_lit h.0)
false_value lits l False h ne open_lit = h.0
false_value lits l Unset h ne open_lit = absurd (ne refl)

pub grown_moved : (s new : State) (id : ℕ) (p : Pair) (from at to : ℕ) → new ≡ with_pair s id p from at to → Grows s new
grown_moved s new id p from at to e = subst (Grows s) (sym e) (grows_moved s id p from at to)

pub true_value : (lits : List Lit) (l : Lit) (v : Value) → IsValueIn lits l v → v ≢ True → Contains lits l → ⊥
true_value lits l True h ne c = ne refl
true_value lits l False h ne c = h.1 c
true_value lits l Unset h ne c = h.0 c

-- what is true stays so
pub grown_there : (old new : State) (l : Lit) → Grows old new → Contains old.lits l → Contains new.lits l
grown_there old new l g c =
    let r = g.more in
    subst (λ xs. Contains xs l) (sym r.1) (Contains-append_left old.lits r.0 l c)

-- the first clauses are all
pub done_all : (s : State) (f : Lit) (at : ℕ) → length (ids_at s.lists (packed f)) ≤ at → AreDone s f at
    → AreDone s f (length (ids_at s.lists (packed f)))
done_all s f at le h = record {
  first = λ i lt within e. h.first i (omega arith) within e;
  second = λ i lt within e. h.second i (omega arith) within e;
}

pub done_none : (s : State) (f : Lit) → AreDone s f 0
done_none s f = record {
  first = λ i lt. absurd (omega arith);
  second = λ i lt. absurd (omega arith);
}

-- the ids that a list lends, by the literal
pub ids_are : (lists ls : List Listed) (ids : List ℕ) (code : ℕ) (f : Lit) → ids ≡ ids_at ls code → ls ≡ lists
    → code ≡ packed f → ids ≡ ids_at lists (packed f)
ids_are lists ls ids code f e1 e2 e3 = e1 ∙ (ap (λ l. ids_at l code) e2 ∙ ap (λ k. ids_at lists k) e3)

-- a literal of a clause has come, by what the state becomes
pub literal_kept : (s new : State) (l : Lit) (id : ℕ) → IsKept s → IsImplied s l id → AreLevels s.starts (length s.lits)
    → length s.lits < s.vars → new ≡ with_literal s l id → IsKept new
literal_kept s new l id kept implied levels before e =
    subst IsKept (sym e) (kept_literal s l id kept levels before (λ _. implied))

pub literal_true : (s new : State) (l : Lit) (id : ℕ) → Contains (clause_at s.clauses id) l → new ≡ with_literal s l id
    → HasTrue (clause_at new.clauses id) new.lits
literal_true s new l id there e =
    subst (λ (n : State). HasTrue (clause_at n.clauses id) n.lits) (sym e)
    (record { some = (l, there, Contains-pushed s.lits l l refl) })

-- how far it has come is no part of the growth
pub grows_head : (a b : State) (n : ℕ) → Grows a b → Grows a (record b { head = n })
grows_head a b n g = record {
  clauses = g.clauses;
  starts = g.starts;
  vars = g.vars;
  short = g.short;
  lists = g.lists;
  more = g.more;
  reasons = g.reasons;
  new_reasons = g.new_reasons;
}

pub grows_done : (a b : State) (n : ℕ) → Grows a b → Grows a (record b { done = n })
grows_done a b n g = record {
  clauses = g.clauses;
  starts = g.starts;
  vars = g.vars;
  short = g.short;
  lists = g.lists;
  more = g.more;
  reasons = g.reasons;
  new_reasons = g.new_reasons;
}
