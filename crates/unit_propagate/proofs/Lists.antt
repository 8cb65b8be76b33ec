-- The watch lists as ids come and go.
use Rattle.std.proofs.Common.{◌≡◌, ◌≢◌, ℕ, zero, suc, ◌<◌, ◌≤◌, ◌+◌, ◌-◌, ◌*◌, List, [], ◌∷◌, ◌++◌, length}
use Rattle.std.proofs.Common.{get_or, arith, ap, sym, ◌∙◌, refl, true, inl, inr, ⊎_elim}
use Rattle.std.specs.Prelude.{◌⊎◌, ◌==◌, Contains, sum_by, count_by, cond}
use Rattle.std.specs.List.{swap_remove}
use Rattle.std.proofs.Math.ListN.{length-set}
use Rattle.std.proofs.lemmas.List.{get_or-set_same, get_or-set_other, set_past}
use Rattle.std.proofs.Math.ListN.{get_or-eq_default}
use Rattle.std.proofs.lemmas.List.Sums.{sum_by_push, sum_by-swap_remove, sum_by-cons}
use Rattle.std.proofs.lemmas.Bool.{cases_lt, cases_eq}
use Rattle.std.proofs.lemmas.Bool.Decides.{nat_tests}
use Rattle.lists.proofs.ListTests.{any_from}
use Rattle.plain_lits.specs.declared.lit.Lit.{Lit}
use Rattle.plain_lits.specs.Packed.{packed}
use Rattle.plain_lits.specs.HintCheck.{clause_at, IsNamed}
use Rattle.clause_watches.specs.declared.pair.Pair.{Pair}
use Rattle.clause_watches.specs.Arenas.{pair_of, no_pair}
use Rattle.unit_propagate.specs.States.{has, IsWatching}
use Rattle.clause_watches.specs.Picks.{IsPairOf}
use Rattle.clause_watches.specs.WatchLists.{Listed, no_list, list_at, ids_at, one, watches, with_id, without}

pub one_same : (a : ℕ) → one a a ≡ 1
one_same a = grind (arith, nat_tests)

pub one_other : (a b : ℕ) → a ≢ b → one a b ≡ 0
one_other a b ne = grind (arith, nat_tests)

-- a pair of two literals watches each of them once
pub watches_apart : (code : ℕ) (p : Pair) → packed p.first ≢ packed p.second
    → watches code p ≡ one (packed p.first) code + one (packed p.second) code
watches_apart code p ne = grind (arith, nat_tests)

pub watches_alone : (code : ℕ) (p : Pair) → packed p.first ≡ packed p.second → watches code p ≡ 0
watches_alone code p e = grind (arith, nat_tests)

-- a list that gains an id
pub weight_with : (f : ℕ → ℕ) (lists : List Listed) (code id c : ℕ) → code < length lists
    → sum_by f (ids_at (with_id lists code id) c) ≡ sum_by f (ids_at lists c) + one code c * f id
weight_with f lists code id c lt = ⊎_elim
    (λ same.
    let e : ids_at (with_id lists code id) c ≡ ids_at lists code ++ id ∷ [] =
    ap (λ k. ids_at (with_id lists code id) k) (sym same) ∙ ap (λ (l : Listed). l.ids)
    (get_or-set_same lists code _ no_list lt) in
    let here : one code c ≡ 1 = ap (λ k. one code k) (sym same) ∙ one_same code in
    omega (
      arith,
      ap (λ xs. sum_by f xs) e,
      sum_by_push f (ids_at lists code) id,
      ap (λ n. n * f id) here,
      ap (λ k. sum_by f (ids_at lists k)) same,
    ))
    (λ other.
    let e : ids_at (with_id lists code id) c ≡ ids_at lists c =
    ap (λ (l : Listed). l.ids) (get_or-set_other lists code c _ no_list (λ e. other (sym e))) in
    omega (arith, ap (λ xs. sum_by f xs) e, ap (λ n. n * f id) (one_other code c other)))
    (cases_eq code c)

-- a list that loses an id
pub weight_without : (f : ℕ → ℕ) (lists : List Listed) (code at c : ℕ) → code < length lists
    → at < length (ids_at lists code)
    → sum_by f (ids_at (without lists code at) c) + one code c * f (get_or (ids_at lists code) at 0)
    ≡ sum_by f (ids_at lists c)
weight_without f lists code at c lt within = ⊎_elim
    (λ same. let e : ids_at (without lists code at) c ≡ swap_remove (ids_at lists code) at 0 =
    ap (λ k. ids_at (without lists code at) k) (sym same) ∙ ap (λ (l : Listed). l.ids)
    (get_or-set_same lists code _ no_list lt) in
    let cut = sum_by-swap_remove f (ids_at lists code) at 0 within in
    let here : one code c ≡ 1 = ap (λ k. one code k) (sym same) ∙ one_same code in
    omega (
      arith,
      ap (λ xs. sum_by f xs) e,
      cut,
      ap (λ n. n * f (get_or (ids_at lists code) at 0)) here,
      ap (λ k. sum_by f (ids_at lists k)) same,
    ))
    (λ other. let e : ids_at (without lists code at) c ≡ ids_at lists c =
    ap (λ (l : Listed). l.ids) (get_or-set_other lists code c _ no_list (λ e. other (sym e))) in
    omega (arith, ap (λ xs. sum_by f xs) e, ap (λ n. n * f (get_or (ids_at lists code) at 0)) (one_other code c other)))
    (cases_eq code c)

-- the room of lists stays
pub uses_with : (lists : List Listed) (code id c : ℕ) → (list_at (with_id lists code id) c).uses
    ≡ (list_at lists c).uses
uses_with lists code id c = ⊎_elim
    (λ same. ⊎_elim (λ lt. ap (λ k. (list_at (with_id lists code id) k).uses) (sym same)
    ∙ (ap (λ (l : Listed). l.uses) (get_or-set_same lists code _ no_list lt)
    ∙ ap (λ k. (list_at lists k).uses) same))
    (λ past. ap (λ (ls : List Listed). (list_at ls c).uses) (set_past lists code _ past))
    (cases_lt code (length lists)))
    (λ other. ap (λ (l : Listed). l.uses) (get_or-set_other lists code c _ no_list (λ e. other (sym e))))
    (cases_eq code c)

pub uses_without : (lists : List Listed) (code at c : ℕ) → (list_at (without lists code at) c).uses
    ≡ (list_at lists c).uses
uses_without lists code at c = ⊎_elim
    (λ same. ⊎_elim (λ lt. ap (λ k. (list_at (without lists code at) k).uses) (sym same)
    ∙ (ap (λ (l : Listed). l.uses) (get_or-set_same lists code _ no_list lt)
    ∙ ap (λ k. (list_at lists k).uses) same))
    (λ past. ap (λ (ls : List Listed). (list_at ls c).uses) (set_past lists code _ past))
    (cases_lt code (length lists)))
    (λ other. ap (λ (l : Listed). l.uses) (get_or-set_other lists code c _ no_list (λ e. other (sym e))))
    (cases_eq code c)

pub ones_length : (xs : List ℕ) → sum_by (λ x. 1) xs ≡ length xs
ones_length [] = refl
ones_length (x ∷ xs) = omega (arith, sum_by-cons (λ (x : ℕ). 1) x xs, ones_length xs)

-- an id that moves from one list to another
pub weight_moved : (f : ℕ → ℕ) (lists : List Listed) (from at to c : ℕ) → from < length lists → to < length lists
    → at < length (ids_at lists from)
    → sum_by f (ids_at (with_id (without lists from at) to (get_or (ids_at lists from) at 0)) c)
    + one from c * f (get_or (ids_at lists from) at 0)
    ≡ sum_by f (ids_at lists c) + one to c * f (get_or (ids_at lists from) at 0)
weight_moved f lists from at to c lt lt2 within =
    let id = get_or (ids_at lists from) at 0 in
    let long : to < length (without lists from at) =
    omega (
      arith,
      length-set lists from (record {
        ids = swap_remove (ids_at lists from) at 0;
        uses =
            (list_at lists from).uses;
      }),
    ) in
    let a = weight_with f (without lists from at) to id c long in
    let b = weight_without f lists from at c lt within in
    omega (arith, a, b)

pub length_moved : (lists : List Listed) (from at to c : ℕ) → from < length lists → to < length lists
    → at < length (ids_at lists from)
    → length (ids_at (with_id (without lists from at) to (get_or (ids_at lists from) at 0)) c) + one from c
    ≡ length (ids_at lists c) + one to c
length_moved lists from at to c lt lt2 within =
    omega (
      arith,
      weight_moved (λ x. 1) lists from at to c lt lt2 within,
      ones_length (ids_at lists c),
      ones_length (ids_at (with_id (without lists from at) to (get_or (ids_at lists from) at 0)) c),
    )

-- how often something is counted, if each pair counts no more than its clause
sums_below : (code : ℕ) (clauses : List (List Lit)) (pairs : List Pair) → length pairs ≡ length clauses
    → ((k : ℕ) → k < length clauses → watches code (get_or pairs k no_pair) ≤ cond (has code (get_or clauses k [])) 1 0)
    → sum_by (watches code) pairs ≤ count_by (has code) clauses
sums_below code [] [] e h = omega arith
sums_below code [] (p ∷ pairs) e h = absurd (omega arith)
sums_below code (clause ∷ clauses) [] e h = absurd (omega arith)
sums_below code (clause ∷ clauses) (p ∷ pairs) e h =
    let first = h 0 (omega arith) in
    let rest = sums_below code clauses pairs (omega arith) (λ k lt. h (suc k) (omega arith)) in
    omega (
      arith,
      first,
      rest,
      sum_by-cons (watches code) p pairs,
      sum_by-cons (λ c. cond (has code c) 1 0) clause
          clauses,
    )

-- a clause has the code of a literal that it holds
pub has_there : (clause : List Lit) (l : Lit) → Contains clause l → has (packed l) clause ≡ true
has_there clause l c = any_from (λ x. packed x == packed l) clause l c (grind (arith, nat_tests))

-- a pair watches no literal that its clause hasn't, and none twice
pub pair_below : (code : ℕ) (clause : List Lit) (p : Pair) → IsPairOf clause p
    → watches code p ≤ cond (has code clause) 1 0
pair_below code clause p h = ⊎_elim
    (λ same. omega (arith, watches_alone code p same))
    (λ apart.
    let ne : p.first ≢ p.second = λ e. apart (ap packed e) in
    let sum = watches_apart code p apart in
    ⊎_elim
    (λ (first : packed p.first ≡ code).
    let e : has code clause ≡ true = rw first at (has_there clause p.first (h.first ne)) in
    let no : packed p.second ≢ code = λ s. apart (first ∙ sym s) in
    rw e (omega (arith, sum, one_other (packed p.second) code no, ap (λ k. one k code) first, one_same code)))
    (λ (not_first : packed p.first ≢ code). ⊎_elim
    (λ (second : packed p.second ≡ code).
    let e : has code clause ≡ true = rw second at (has_there clause p.second (h.second ne)) in
    rw e (omega (arith, sum, one_other (packed p.first) code not_first, ap (λ k. one k code) second, one_same code)))
    (λ (not_second : packed p.second ≢ code). omega (
      arith,
      sum,
      one_other (packed p.first) code not_first,
      one_other
          (packed p.second) code not_second,
    ))
    (cases_eq (packed p.second) code))
    (cases_eq (packed p.first) code))
    (cases_eq (packed p.first) (packed p.second))

-- so a list is no longer than the count of the clauses that hold its literal
pub pairs_below : (code : ℕ) (clauses : List (List Lit)) (pairs : List Pair) → length pairs ≡ length clauses
    → ((id : ℕ) → IsNamed clauses id → IsPairOf (clause_at clauses id) (pair_of pairs id))
    → sum_by (watches code) pairs ≤ count_by (has code) clauses
pairs_below code clauses pairs e h = sums_below code clauses pairs e
    (λ k lt.
    let last : suc k - 1 ≡ k = omega arith in
    let is : IsPairOf (get_or clauses (suc k - 1) []) (get_or pairs k no_pair) =
    h (suc k) (record { from_one = omega arith; within = omega arith }) in
    pair_below code (get_or clauses k []) (get_or pairs k no_pair) (rw last at is))

-- an id in a list is counted there
counted_at : (xs : List ℕ) (i id : ℕ) → i < length xs → get_or xs i 0 ≡ id → 1 ≤ sum_by (one id) xs
counted_at [] i id lt e = absurd (omega arith)
counted_at (x ∷ xs) zero id lt e = omega (arith, sum_by-cons (one id) x xs, ap (λ k. one id k) e, one_same id)
counted_at (x ∷ xs) (suc i) id lt e = omega (arith, sum_by-cons (one id) x xs, counted_at xs i id (omega arith) e)

-- and what is counted is there
pub counted_there : (xs : List ℕ) (id : ℕ) → 1 ≤ sum_by (one id) xs → (i : ℕ) × (i < length xs) × (get_or xs i 0 ≡ id)
counted_there [] id h = absurd (omega arith)
counted_there (x ∷ xs) id h = ⊎_elim
    (λ e. (0, omega arith, sym e))
    (λ ne.
    let rest = counted_there xs id (omega (arith, sum_by-cons (one id) x xs, one_other id x ne)) in
    let lt = rest.1 in
    (suc rest.0, omega arith, rest.2))
    (cases_eq id x)

-- a pair watches the literal of a code
pub record IsSeen (clauses : List (List Lit)) (pairs : List Pair) (code id : ℕ) : Type 0 where
  pub named : IsNamed clauses id
  pub apart : packed (pair_of pairs id).first ≢ packed (pair_of pairs id).second
  pub one_of : (packed (pair_of pairs id).first ≡ code) ⊎ (packed (pair_of pairs id).second ≡ code)

seen_pair : (code : ℕ) (p : Pair) → 1 ≤ watches code p
    → (packed p.first ≢ packed p.second) × ((packed p.first ≡ code) ⊎ (packed p.second ≡ code))
seen_pair code p h = ⊎_elim
    (λ same. absurd (omega (arith, watches_alone code p same)))
    (λ apart. (
      apart,
      ⊎_elim (λ e. inl e)
          (λ ne. ⊎_elim (λ e. inr e)
          (λ ne2. absurd (omega (
            arith,
            watches_apart code p apart,
            one_other (packed p.first) code ne,
            one_other
                (packed p.second) code ne2,
          )))
          (cases_eq (packed p.second) code))
          (cases_eq (packed p.first) code),
    ))
    (cases_eq (packed p.first) (packed p.second))

pair_past : (pairs : List Pair) (id : ℕ) → length pairs < id → pair_of pairs id ≡ no_pair
pair_past pairs id lt = get_or-eq_default (no_pair ∷ pairs) no_pair (omega arith)

seen_named : (pairs : List Pair) (n code id : ℕ) → length pairs ≡ n → 1 ≤ watches code (pair_of pairs id) → (0 < id)
    × (id ≤ n)
seen_named pairs n code zero e h = absurd (omega (arith, watches_alone code no_pair refl))
seen_named pairs n code (suc k) e h = ⊎_elim
    (λ past. absurd (omega (
      arith,
      ap (λ p. watches code p) (pair_past pairs (suc k) past),
      watches_alone code no_pair
          refl,
    )))
    (λ within. (omega arith, omega arith))
    (cases_lt (length pairs) (suc k))

-- what stands in a list watches its literal
pub listed_seen : (clauses : List (List Lit)) (pairs : List Pair) (lists : List Listed) (code i : ℕ)
    → IsWatching clauses pairs lists → i < length (ids_at lists code)
    → IsSeen clauses pairs code (get_or (ids_at lists code) i 0)
listed_seen clauses pairs lists code i h lt =
    let id = get_or (ids_at lists code) i 0 in
    let some : 1 ≤ watches code (pair_of pairs id) =
    omega (arith, h.listed code id, counted_at (ids_at lists code) i id lt refl) in
    let named = seen_named pairs (length clauses) code id h.long some in
    let seen = seen_pair code (pair_of pairs id) some in
    record { named = record { from_one = named.0; within = named.1 }; apart = seen.0; one_of = seen.1 }

-- and what watches a literal stands in its list
pub seen_listed : (clauses : List (List Lit)) (pairs : List Pair) (lists : List Listed) (code id : ℕ)
    → IsWatching clauses pairs lists → packed (pair_of pairs id).first ≢ packed (pair_of pairs id).second
    → (packed (pair_of pairs id).first ≡ code) ⊎ (packed (pair_of pairs id).second ≡ code)
    → (i : ℕ) × (i < length (ids_at lists code)) × (get_or (ids_at lists code) i 0 ≡ id)
seen_listed clauses pairs lists code id h apart one_of =
    let sum = watches_apart code (pair_of pairs id) apart in
    let listed = h.listed code id in
    let some : 1 ≤ watches code (pair_of pairs id) = ⊎_elim
    (λ first. omega (arith, sum, ap (λ k. one k code) first, one_same code))
    (λ second. omega (arith, sum, ap (λ k. one k code) second, one_same code)) one_of in
    counted_there (ids_at lists code) id (omega arith)
