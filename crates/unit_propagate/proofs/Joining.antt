-- A clause comes.
use Rattle.std.proofs.Common.{◌≡◌, ◌≢◌, ℕ, zero, suc, ◌<◌, ◌≤◌, ◌+◌, ◌-◌, ◌*◌, List, [], ◌∷◌, ◌++◌, length}
use Rattle.std.proofs.Common.{get_or, take, arith, ap, sym, subst, ◌∙◌, refl, inl, inr, ⊎_elim, length-append}
use Rattle.std.specs.Prelude.{◌⊎◌, Contains, cond}
use Rattle.std.proofs.Math.ListN.{get_or-eq_default}
use Rattle.std.proofs.Math.Seq.{get_or-append_seam}
use Rattle.std.proofs.lemmas.List.{get_or_append_left, take-append-le}
use Rattle.std.proofs.lemmas.List.Sums.{sum_by_push}
use Rattle.std.proofs.lemmas.List.Elements.{Contains-append_left}
use Rattle.std.proofs.lemmas.Bool.{cases_lt, cases_eq}
use Rattle.lists.proofs.Membership.{Contains-pushed}
use Rattle.plain_lits.specs.declared.lit.Lit.{Lit}
use Rattle.plain_lits.specs.Literals.{negation}
use Rattle.plain_lits.specs.HintCheck.{clause_at, IsNamed}
use Rattle.clause_watches.specs.declared.pair.Pair.{Pair}
use Rattle.clause_watches.specs.Arenas.{pair_of, no_pair}
use Rattle.unit_propagate.specs.States.{State, has, IsWatching, IsKept, IsShort, IsLooked, Guards, HasTrue}
use Rattle.clause_watches.specs.Picks.{IsPairOf}
use Rattle.unit_propagate.specs.Steps.{IsAdded, with_clause}
use Rattle.clause_watches.specs.WatchLists.{Listed, ids_at, one, watches}
use Rattle.clause_watches.proofs.Fronts.{pushed_cases, longer_front, from_front}
use Rattle.unit_propagate.proofs.Lists.{one_same, one_other, watches_alone, ones_length}
use Rattle.plain_lits.proofs.OneOutcome.{cases_lit}

-- the clause of an id
pub clause_before : (clauses : List (List Lit)) (clause : List Lit) (id : ℕ) → IsNamed clauses id
    → clause_at (clauses ++ clause ∷ []) id ≡ clause_at clauses id
clause_before clauses clause id named =
    let above = named.from_one in
    let within = named.within in
    get_or_append_left clauses (clause ∷ []) [] (id - 1) (omega arith)

pub clause_last : (clauses : List (List Lit)) (clause : List Lit) (id : ℕ) → id ≡ length clauses + 1
    → clause_at (clauses ++ clause ∷ []) id ≡ clause
clause_last clauses clause id e =
    let last : id - 1 ≡ length clauses = omega arith in
    ap (λ k. get_or (clauses ++ clause ∷ []) k []) last ∙ get_or-append_seam clauses clause [] []

pair_before : (pairs : List Pair) (p : Pair) (n j : ℕ) → length pairs ≡ n → j ≢ n + 1 → pair_of (pairs ++ p ∷ []) j
    ≡ pair_of pairs j
pair_before pairs p n zero e ne = refl
pair_before pairs p n (suc k) e ne = ⊎_elim
    (λ old. get_or_append_left pairs (p ∷ []) no_pair k old)
    (λ past.
    let far : n < k = ⊎_elim (λ less. less) (λ more. absurd (ne (let same : suc k ≡ n + 1 = omega arith in same)))
    (cases_lt n k) in
    get_or-eq_default (pairs ++ p ∷ []) no_pair (omega (arith, length-append pairs (p ∷ [])))
    ∙ sym (get_or-eq_default pairs no_pair past))
    (cases_lt k (length pairs))

pair_last : (pairs : List Pair) (p : Pair) (n j : ℕ) → length pairs ≡ n → j ≡ n + 1 → pair_of (pairs ++ p ∷ []) j ≡ p
pair_last pairs p n j e last =
    let at : j ≡ suc (length pairs) = omega arith in
    ap (λ k. pair_of (pairs ++ p ∷ []) k) at ∙ get_or-append_seam pairs p [] no_pair

pair_none : (pairs : List Pair) (n j : ℕ) → length pairs ≡ n → j ≡ n + 1 → pair_of pairs j ≡ no_pair
pair_none pairs n j e last = get_or-eq_default (no_pair ∷ pairs) no_pair (let past : suc (length pairs) ≤ j =
    omega arith in past)

-- an id of one clause more
named_cases : (clauses : List (List Lit)) (clause : List Lit) (j : ℕ) → IsNamed (clauses ++ clause ∷ []) j
    → IsNamed clauses j ⊎ (j ≡ length clauses + 1)
named_cases clauses clause j named =
    let above = named.from_one in
    let within = named.within in
    let long = length-append clauses (clause ∷ []) in
    ⊎_elim (λ low. inl (record { from_one = above; within = omega arith })) (λ high. inr (omega arith))
    (cases_lt j (length clauses + 1))

named_more : (clauses : List (List Lit)) (clause : List Lit) (j : ℕ) → IsNamed clauses j
    → IsNamed (clauses ++ clause ∷ []) j
named_more clauses clause j named =
    let within = named.within in
    record { from_one = named.from_one; within = omega (arith, length-append clauses (clause ∷ [])) }

added_watching : (s : State) (lists : List Listed) (short : List ℕ) (clause : List Lit) (p : Pair) (id index : ℕ)
    → IsKept s
    → IsAdded s lists short clause p id index → IsWatching (s.clauses ++ clause ∷ []) (s.pairs ++ p ∷ []) lists
added_watching s lists short clause p id index kept a =
    let long = kept.stored.watching.long in
    let n = length s.clauses in
    record {
      long = omega (arith, long, length-append s.clauses (clause ∷ []), length-append s.pairs (p ∷ []));
      paired = λ j named. ⊎_elim
          (λ (old : IsNamed s.clauses j).
          let within = old.within in
          subst (λ c. IsPairOf c (pair_of (s.pairs ++ p ∷ []) j)) (sym (clause_before s.clauses clause j old))
          (subst (λ q. IsPairOf (clause_at s.clauses j) q)
          (sym (pair_before s.pairs p n j long (λ e. let bad : j ≡ n + 1 = e in omega arith)))
          (kept.stored.watching.paired j old)))
          (λ (new : j ≡ n + 1).
          subst (λ c. IsPairOf c (pair_of (s.pairs ++ p ∷ []) j)) (sym (clause_last s.clauses clause j new))
          (subst (λ q. IsPairOf clause q) (sym (pair_last s.pairs p n j long new)) a.pair))
          (named_cases s.clauses clause j named);
      listed = λ code j.
          let weight = a.joins.weight (one j) code in
          let old = kept.stored.watching.listed code j in
          ⊎_elim
          (λ (e : j ≡ id).
          let is : j ≡ n + 1 = e ∙ a.id_is in
          let none = ap (λ q. watches code q) (pair_none s.pairs n j long is) in
          let blank_none = watches_alone code no_pair refl in
          let new = ap (λ q. watches code q) (pair_last s.pairs p n j long is) in
          let unit : one j id ≡ 1 = ap (λ k. one k id) e ∙ one_same id in
          let product = ap (λ k. watches code p * k) unit in
          omega (arith, weight, old, none, blank_none, new, product))
          (λ (ne : j ≢ id).
          let same = ap (λ q. watches code q) (pair_before s.pairs p n j long (λ e. ne (e ∙ sym a.id_is))) in
          let product = ap (λ k. watches code p * k) (one_other j id ne) in
          omega (arith, weight, old, same, product))
          (cases_eq j id);
      counted = λ code. omega (
        arith,
        a.joins.weight (λ x. 1) code,
        ones_length (ids_at lists code),
        ones_length (ids_at s.lists code),
        kept.stored.watching.counted code,
        sum_by_push (watches code) s.pairs p,
      );
      room = λ code. omega (
        arith,
        a.room.uses code,
        a.joins.uses code,
        sum_by_push (λ c. cond (has code c) 1 0)
            s.clauses clause,
      );
    }

true_more : (clauses : List (List Lit)) (clause : List Lit) (id : ℕ) (high : List Lit) → IsNamed clauses id
    → HasTrue (clause_at clauses id) high → HasTrue (clause_at (clauses ++ clause ∷ []) id) high
true_more clauses clause id high named t = subst (λ c. HasTrue c high) (sym (clause_before clauses clause id named)) t

-- the new pair guards as far as propagation has come, since neither literal is false there
added_looked : (s : State) (lists : List Listed) (short : List ℕ) (clause : List Lit) (p : Pair) (id index n done : ℕ)
    (high : List Lit)
    → IsKept s → IsAdded s lists short clause p id index → n ≤ index → done ≤ length s.short
    → IsLooked s.clauses s.pairs s.short (take n s.lits) high done
    → IsLooked (s.clauses ++ clause ∷ []) (s.pairs ++ p ∷ []) short (take n s.lits) high done
added_looked s lists short clause p id index n done high kept a le within h = record {
  guarded = λ q there apart. ⊎_elim
      (λ old. h.guarded q old apart)
      (λ (e : p ≡ q). subst (Guards (take n s.lits) high) e (record {
        first = λ c. absurd (a.first.unfalse (longer_front n index s.lits (negation p.first) le c));
        second = λ c. absurd (a.second.unfalse (longer_front n index s.lits (negation p.second) le c));
      }))
      (pushed_cases s.pairs p q there);
  holds = λ j c.
      let same : take done short ≡ take done s.short = ⊎_elim
      (λ e. ap (λ xs. take done xs) (a.alone e) ∙ take-append-le done s.short (id ∷ []) within)
      (λ ne. ap (λ xs. take done xs) (a.apart ne))
      (cases_lit p.first p.second) in
      let old : Contains (take done s.short) j = subst (λ xs. Contains xs j) same c in
      true_more s.clauses clause j high (kept.stored.short j (from_front done s.short j old)).named (h.holds j old);
}

pub kept_added : (s : State) (lists : List Listed) (short : List ℕ) (clause : List Lit) (p : Pair) (id index : ℕ)
    → IsKept s
    → IsAdded s lists short clause p id index → length lists ≡ length s.lists
    → IsKept (with_clause s lists short clause p)
kept_added s lists short clause p id index kept a same_long =
    let long = kept.stored.watching.long in
    let n = length s.clauses in
    let more_short : length s.short ≤ length short = ⊎_elim
    (λ e. omega (arith, ap length (a.alone e), length-append s.short (id ∷ [])))
    (λ ne. omega (arith, ap length (a.apart ne)))
    (cases_lit p.first p.second) in
    let old_short : (j : ℕ) → IsShort s.clauses s.pairs j → IsShort (s.clauses ++ clause ∷ []) (s.pairs ++ p ∷ []) j =
    λ j h.
    let within = h.named.within in
    record {
      named = named_more s.clauses clause j h.named;
      alone = subst (λ (q : Pair). q.first ≡ q.second)
          (sym (pair_before s.pairs p n j long (λ e. let bad : j ≡ n + 1 = e in omega arith))) h.alone;
    } in
    record {
      stored = record {
        watching = added_watching s lists short clause p id index kept a;
        short = λ j c. ⊎_elim
            (λ (e : p.first ≡ p.second). ⊎_elim
            (λ old. old_short j (kept.stored.short j old))
            (λ (is : id ≡ j). record {
              named = record {
                from_one = omega (arith, a.id_is, is);
                within =
                    omega (arith, a.id_is, is, length-append s.clauses (clause ∷ []));
              };
              alone = subst (λ (q : Pair). q.first ≡ q.second) (sym (pair_last s.pairs p n j long (sym is ∙ a.id_is))) e;
            })
            (pushed_cases s.short id j (subst (λ xs. Contains xs j) (a.alone e) c)))
            (λ (ne : p.first ≢ p.second). old_short j (kept.stored.short j (subst (λ xs. Contains xs j) (a.apart ne) c)))
            (cases_lit p.first p.second);
        all_short = λ j h. ⊎_elim
            (λ (old : IsNamed s.clauses j).
            let within = old.within in
            let was : Contains s.short j = kept.stored.all_short j (record {
              named = old;
              alone = subst (λ (q : Pair). q.first ≡ q.second) (pair_before s.pairs p n j long (λ e. let bad : j ≡ n + 1 =
                  e in omega arith)) h.alone;
            }) in
            ⊎_elim
            (λ e. subst (λ xs. Contains xs j) (sym (a.alone e)) (Contains-append_left s.short (id ∷ []) j was))
            (λ ne. subst (λ xs. Contains xs j) (sym (a.apart ne)) was)
            (cases_lit p.first p.second))
            (λ (new : j ≡ n + 1).
            let e : p.first ≡ p.second = subst (λ (q : Pair). q.first ≡ q.second) (pair_last s.pairs p n j long new)
            h.alone in
            subst (λ xs. Contains xs j) (sym (a.alone e)) (Contains-pushed s.short id j (a.id_is ∙ sym new)))
            (named_cases s.clauses clause j h.named);
        room = λ j l named c. ⊎_elim
            (λ (old : IsNamed s.clauses j). kept.stored.room j l old
            (subst (λ xs. Contains xs l) (clause_before s.clauses clause j old) c))
            (λ (new : j ≡ n + 1). a.known l (subst (λ xs. Contains xs l) (clause_last s.clauses clause j new) c))
            (named_cases s.clauses clause j named);
        lists_long = let two = kept.stored.lists_long in omega arith;
        ids_fit = omega (arith, a.fits, a.id_is, length-append s.clauses (clause ∷ []));
      };
      looked = added_looked s lists short clause p id index s.head s.done s.lits kept a a.head kept.done_within
          kept.looked;
      before = λ k lt. added_looked s lists short clause p id index _ _ _ kept a (a.progress k lt) (kept.marks.done _)
          (kept.before k lt);
      reasons = λ i lt some.
          let r = kept.reasons i lt some in
          let same = clause_before s.clauses clause (get_or s.reasons i 0) r.named in
          record {
            named = named_more s.clauses clause (get_or s.reasons i 0) r.named;
            there = λ d. subst (λ xs. Contains xs (get_or s.lits i d)) (sym same) (r.there d);
            others = λ l d c ne. r.others l d (subst (λ xs. Contains xs l) same c) ne;
          };
      head_within = kept.head_within;
      done_within = let within = kept.done_within in omega arith;
      reasons_long = kept.reasons_long;
      marks = record {
        long = kept.marks.long;
        head = kept.marks.head;
        done = λ m. let within = kept.marks.done m in omega arith;
      };
    }
