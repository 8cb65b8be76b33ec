-- A clause watches another literal in the place of a false one.
use Rattle.std.proofs.Common.{◌≡◌, ◌≢◌, ℕ, zero, suc, ◌<◌, ◌≤◌, ◌+◌, ◌-◌, ◌*◌, List, length}
use Rattle.std.proofs.Common.{get_or, take, arith, ap, sym, subst, ◌∙◌, refl, inl, inr, ⊎_elim}
use Rattle.std.specs.Prelude.{Contains, sum_by}
use Rattle.std.proofs.Math.ListN.{set, length-set}
use Rattle.std.proofs.lemmas.List.{get_or-set_same, get_or-set_other, get_or_default}
use Rattle.std.proofs.lemmas.List.Sums.{sum_by-set}
use Rattle.std.proofs.lemmas.Bool.{cases_eq}
use Rattle.plain_lits.specs.declared.lit.Lit.{Lit}
use Rattle.plain_lits.specs.Literals.{negation}
use Rattle.plain_lits.specs.Packed.{packed}
use Rattle.plain_lits.specs.Trails.{VarsDiffer}
use Rattle.plain_lits.specs.HintCheck.{clause_at, IsNamed}
use Rattle.clause_watches.specs.declared.pair.Pair.{Pair}
use Rattle.clause_watches.specs.Arenas.{pair_of, no_pair}
use Rattle.unit_propagate.specs.States.{State, IsWatching, IsKept, IsShort, IsLooked, Guards}
use Rattle.clause_watches.specs.Picks.{IsPairOf}
use Rattle.unit_propagate.specs.Steps.{IsWatcher, with_pair}
use Rattle.clause_watches.specs.WatchLists.{Listed, list_at, ids_at, one, watches, with_id, without}
use Rattle.clause_watches.proofs.Fronts.{packed_same, set_cases, from_front, consistent}
use Rattle.unit_propagate.proofs.Lists.{IsSeen, listed_seen, watches_apart, one_same, one_other, pairs_below}
use Rattle.unit_propagate.proofs.Lists.{weight_moved, length_moved, uses_with, uses_without}

abbrev pub pair_with : Lit → Lit → Pair
pair_with a b = record { first = a; second = b }

-- the clause at an index of a list, by its pair's first literal or its second
pub here_first : (s : State) (at code id : ℕ) (f : Lit) (p : Pair) → IsKept s → code ≡ packed f
    → at < length (ids_at s.lists code) → id ≡ get_or (ids_at s.lists code) at 0 → p ≡ pair_of s.pairs id
    → packed p.first ≡ code → IsWatcher s at id f p.second
here_first s at code id f p kept e lt id_is p_is first =
    let seen : IsSeen s.clauses s.pairs code id = subst (IsSeen s.clauses s.pairs code) (sym id_is)
    (listed_seen s.clauses s.pairs s.lists code at kept.stored.watching lt) in
    let f_is : p.first ≡ f = packed_same p.first f (first ∙ e) in
    let same : pair_of s.pairs id ≡ p = sym p_is in
    record {
      within = subst (λ k. at < length (ids_at s.lists k)) e lt;
      id_is = ap (λ k. get_or (ids_at s.lists k) at 0) (sym e) ∙ sym id_is;
      named = seen.named;
      apart = λ same_lits. seen.apart (ap (λ (q : Pair). packed q.first) same
          ∙ (ap packed (f_is ∙ same_lits) ∙ ap (λ (q : Pair). packed q.second) p_is));
      pair = inl (ap (λ (q : Pair). q.first) same ∙ f_is, ap (λ (q : Pair). q.second) same);
    }

pub here_second : (s : State) (at code id : ℕ) (f : Lit) (p : Pair) → IsKept s → code ≡ packed f
    → at < length (ids_at s.lists code) → id ≡ get_or (ids_at s.lists code) at 0 → p ≡ pair_of s.pairs id
    → packed p.first ≢ code → IsWatcher s at id f p.first
here_second s at code id f p kept e lt id_is p_is not_first =
    let seen : IsSeen s.clauses s.pairs code id = subst (IsSeen s.clauses s.pairs code) (sym id_is)
    (listed_seen s.clauses s.pairs s.lists code at kept.stored.watching lt) in
    let same : pair_of s.pairs id ≡ p = sym p_is in
    let second : packed p.second ≡ code = ⊎_elim
    (λ one. absurd (not_first (ap (λ (q : Pair). packed q.first) p_is ∙ one)))
    (λ two. ap (λ (q : Pair). packed q.second) p_is ∙ two) seen.one_of in
    let f_is : p.second ≡ f = packed_same p.second f (second ∙ e) in
    record {
      within = subst (λ k. at < length (ids_at s.lists k)) e lt;
      id_is = ap (λ k. get_or (ids_at s.lists k) at 0) (sym e) ∙ sym id_is;
      named = seen.named;
      apart = λ same_lits. not_first (sym (ap packed same_lits) ∙ sym e);
      pair = inr (ap (λ (q : Pair). q.first) same, ap (λ (q : Pair). q.second) same ∙ f_is);
    }

-- a clause's two watched literals
pub here_watches : (s : State) (at id : ℕ) (f o : Lit) → IsWatcher s at id f o → (c : ℕ)
    → watches c (pair_of s.pairs id) ≡ one (packed f) c + one (packed o) c
here_watches s at id f o here c = ⊎_elim
    (λ h. omega (
      arith,
      watches_apart c (pair_of s.pairs id) (λ e. here.apart (sym h.0 ∙ (packed_same _ _ e ∙ h.1))),
      ap (λ l. one (packed l) c) h.0,
      ap (λ l. one (packed l) c) h.1,
    ))
    (λ h. omega (
      arith,
      watches_apart c (pair_of s.pairs id) (λ e. here.apart (sym h.1 ∙ (sym (packed_same _ _ e) ∙ h.0))),
      ap (λ l. one (packed l) c) h.0,
      ap (λ l. one (packed l) c) h.1,
    ))
    here.pair

-- they are two
pub here_apart : (s : State) (at id : ℕ) (f o : Lit) → IsWatcher s at id f o
    → (pair_of s.pairs id).first ≢ (pair_of s.pairs id).second
here_apart s at id f o here = ⊎_elim
    (λ h. λ e. here.apart (sym h.0 ∙ (e ∙ h.1)))
    (λ h. λ e. here.apart (sym h.1 ∙ (sym e ∙ h.0)))
    here.pair

-- and stand in the clause
pub here_other : (s : State) (at id : ℕ) (f o : Lit) → IsKept s → IsWatcher s at id f o
    → Contains (clause_at s.clauses id) o
here_other s at id f o kept here =
    let apart = here_apart s at id f o here in
    let is = kept.stored.watching.paired id here.named in
    ⊎_elim (λ h. subst (Contains (clause_at s.clauses id)) h.1 (is.second apart))
    (λ h. subst (Contains (clause_at s.clauses id)) h.0 (is.first apart)) here.pair

pub pair_at : (pairs : List Pair) (id : ℕ) → 0 < id → pair_of pairs id ≡ get_or pairs (id - 1) no_pair
pair_at pairs zero h = absurd (omega arith)
pair_at pairs (suc k) h = let e : suc k - 1 ≡ k = omega arith in rw e refl

pub pair_set_same : (pairs : List Pair) (id : ℕ) (p : Pair) → 0 < id → id ≤ length pairs
    → pair_of (set pairs (id - 1) p) id ≡ p
pair_set_same pairs id p above within =
    pair_at (set pairs (id - 1) p) id above ∙ get_or-set_same pairs (id - 1) p no_pair (omega arith)

pub pair_set_other : (pairs : List Pair) (id j : ℕ) (p : Pair) → 0 < id → j ≢ id
    → pair_of (set pairs (id - 1) p) j ≡ pair_of pairs j
pair_set_other pairs id zero p above ne = refl
pair_set_other pairs id (suc k) p above ne =
    get_or-set_other pairs (id - 1) k p no_pair (λ e. ne (let last : suc k ≡ id = omega arith in last))

pub pair_there : (pairs : List Pair) (id : ℕ) → 0 < id → id ≤ length pairs → Contains pairs (pair_of pairs id)
pair_there pairs id above within =
    let lt : id - 1 < length pairs = omega arith in
    (id - 1, lt, get_or_default pairs (id - 1) (pair_of pairs id) no_pair lt ∙ sym (pair_at pairs id above))

-- what a move needs
pub record IsMove (s : State) (at id : ℕ) (f o to : Lit) : Type 0 where
  pub here : IsWatcher s at id f o
  pub there : Contains (clause_at s.clauses id) to
  pub apart : packed to ≢ packed o
  pub not_false : Contains s.lits (negation to) → ⊥
  pub falsified : Contains s.lits (negation f)
  pub vars : VarsDiffer s.lits

pub move_codes : (s : State) (at id : ℕ) (f o to : Lit) → IsMove s at id f o to → packed f ≢ packed to
move_codes s at id f o to m e =
    m.not_false (subst (λ l. Contains s.lits (negation l)) (packed_same f to e) m.falsified)

moved_paired : (s : State) (at id : ℕ) (f o to : Lit) → IsKept s → IsMove s at id f o to → (j : ℕ) → IsNamed s.clauses j
    → IsPairOf (clause_at s.clauses j) (pair_of (set s.pairs (id - 1) (pair_with o to)) j)
moved_paired s at id f o to kept m j named =
    let above = m.here.named.from_one in
    let within = m.here.named.within in
    let long = kept.stored.watching.long in
    ⊎_elim
    (λ (e : j ≡ id).
    let new : pair_of (set s.pairs (id - 1) (pair_with o to)) j ≡ pair_with o to =
    ap (λ k. pair_of (set s.pairs (id - 1) (pair_with o to)) k) e ∙ pair_set_same s.pairs id (pair_with o to) above
    (omega arith) in
    let is : IsPairOf (clause_at s.clauses id) (pair_with o to) = record {
      first = λ _. here_other s at id f o kept m.here;
      second = λ _. m.there;
      alone = λ same. absurd (m.apart (sym (ap packed same)));
    } in
    subst (IsPairOf (clause_at s.clauses j)) (sym new) (subst (λ k. IsPairOf (clause_at s.clauses k) (pair_with o to))
    (sym e) is))
    (λ (ne : j ≢ id). subst (IsPairOf (clause_at s.clauses j))
    (sym (pair_set_other s.pairs id j (pair_with o to) above ne)) (kept.stored.watching.paired j named))
    (cases_eq j id)

moved_sum : (s : State) (at id : ℕ) (f o to : Lit) → IsKept s → IsMove s at id f o to → (c : ℕ)
    → sum_by (watches c) (set s.pairs (id - 1) (pair_with o to)) + one (packed f) c ≡ sum_by (watches c) s.pairs + one
    (packed to) c
moved_sum s at id f o to kept m c =
    let above = m.here.named.from_one in
    let within = m.here.named.within in
    let long = kept.stored.watching.long in
    let moved = sum_by-set (watches c) s.pairs (id - 1) (pair_with o to) no_pair (omega arith) in
    let old = here_watches s at id f o m.here c in
    let same = ap (λ p. watches c p) (pair_at s.pairs id above) in
    let new = watches_apart c (pair_with o to) (λ e. m.apart (sym e)) in
    omega (arith, moved, old, same, new)

-- there is room in the list of the literal that it comes to watch
pub room_there : (s : State) (at id : ℕ) (f o to : Lit) → IsKept s → IsMove s at id f o to
    → length (ids_at s.lists (packed to)) < (list_at s.lists (packed to)).uses
room_there s at id f o to kept m =
    let sum = moved_sum s at id f o to kept m (packed to) in
    let below = pairs_below (packed to) s.clauses (set s.pairs (id - 1) (pair_with o to))
    (length-set s.pairs (id - 1) (pair_with o to) ∙ kept.stored.watching.long) (moved_paired s at id f o to kept m) in
    omega (
      arith,
      sum,
      below,
      kept.stored.watching.room (packed to),
      kept.stored.watching.counted (packed to),
      one_same (packed to),
      one_other (packed f) (packed to) (move_codes s at id f o to m),
    )

abbrev pub moved_pairs : State → ℕ → Lit → Lit → List Pair
moved_pairs s id o to = set s.pairs (id - 1) (pair_with o to)

abbrev pub moved_lists : State → ℕ → ℕ → Lit → Lit → List Listed
moved_lists s at id f to = with_id (without s.lists (packed f) at) (packed to) id

-- the watch lists after a move
rewatched : (s : State) (at id : ℕ) (f o to : Lit) → IsKept s → IsMove s at id f o to → packed f < length s.lists
    → packed to < length s.lists → IsWatching s.clauses (moved_pairs s id o to) (moved_lists s at id f to)
rewatched s at id f o to kept m lt lt2 =
    let above = m.here.named.from_one in
    let within = m.here.named.within in
    let long = kept.stored.watching.long in
    let is = m.here.id_is in
    record {
      long = length-set s.pairs (id - 1) (pair_with o to) ∙ long;
      paired = moved_paired s at id f o to kept m;
      listed = λ c j.
          let weight = weight_moved (one j) s.lists (packed f) at (packed to) c lt lt2 m.here.within in
          let moved : sum_by (one j) (ids_at (moved_lists s at id f to) c) + one (packed f) c * one j id
          ≡ sum_by (one j) (ids_at s.lists c) + one (packed to) c * one j id =
          subst (λ k. sum_by (one j) (ids_at (moved_lists s at k f to) c) + one (packed f) c * one j k
          ≡ sum_by (one j) (ids_at s.lists c) + one (packed to) c * one j k) is weight in
          let old = kept.stored.watching.listed c j in
          ⊎_elim
          (λ (e : j ≡ id).
          let new : pair_of (moved_pairs s id o to) j ≡ pair_with o to = ap (λ k. pair_of (moved_pairs s id o to) k) e
          ∙ pair_set_same s.pairs id (pair_with o to) above (omega arith) in
          let counts = here_watches s at id f o m.here c in
          let at_old = ap (λ k. watches c (pair_of s.pairs k)) e in
          let at_new = ap (λ p. watches c p) new in
          let news = watches_apart c (pair_with o to) (λ e2. m.apart (sym e2)) in
          let unit : one j id ≡ 1 = ap (λ k. one k id) e ∙ one_same id in
          let a = ap (λ n. one (packed f) c * n) unit in
          let b = ap (λ n. one (packed to) c * n) unit in
          omega (arith, moved, old, counts, at_old, at_new, news, a, b))
          (λ (ne : j ≢ id).
          let zero_one : one j id ≡ 0 = one_other j id ne in
          let a = ap (λ n. one (packed f) c * n) zero_one in
          let b = ap (λ n. one (packed to) c * n) zero_one in
          let same = ap (λ p. watches c p) (pair_set_other s.pairs id j (pair_with o to) above ne) in
          omega (arith, moved, old, same, a, b))
          (cases_eq j id);
      counted = λ c.
          let count = length_moved s.lists (packed f) at (packed to) c lt lt2 m.here.within in
          let moved : length (ids_at (moved_lists s at id f to) c) + one (packed f) c ≡ length (ids_at s.lists c) + one
          (packed to) c =
          subst (λ k. length (ids_at (moved_lists s at k f to) c) + one (packed f) c ≡ length (ids_at s.lists c) + one
          (packed to) c) is count in
          omega (arith, moved, moved_sum s at id f o to kept m c, kept.stored.watching.counted c);
      room = λ c. omega (
        arith,
        kept.stored.watching.room c,
        uses_with (without s.lists (packed f) at) (packed to) id c,
        uses_without s.lists (packed f) at c,
      );
    }

-- what watches nothing stays the same
moved_short : (s : State) (at id : ℕ) (f o to : Lit) → IsMove s at id f o to → id ≤ length s.pairs → (j : ℕ)
    → IsShort s.clauses s.pairs j → IsShort s.clauses (moved_pairs s id o to) j
moved_short s at id f o to m within j short = ⊎_elim
    (λ (e : j ≡ id). absurd (here_apart s at id f o m.here
    (subst (λ k. (pair_of s.pairs k).first ≡ (pair_of s.pairs k).second) e short.alone)))
    (λ (ne : j ≢ id). record {
      named = short.named;
      alone = subst (λ (p : Pair). p.first ≡ p.second)
          (sym (pair_set_other s.pairs id j (pair_with o to) m.here.named.from_one ne)) short.alone;
    })
    (cases_eq j id)

short_moved : (s : State) (at id : ℕ) (f o to : Lit) → IsMove s at id f o to → id ≤ length s.pairs → (j : ℕ)
    → IsShort s.clauses (moved_pairs s id o to) j → IsShort s.clauses s.pairs j
short_moved s at id f o to m within j short = ⊎_elim
    (λ (e : j ≡ id).
    let new : pair_of (moved_pairs s id o to) j ≡ pair_with o to = ap (λ k. pair_of (moved_pairs s id o to) k) e
    ∙ pair_set_same s.pairs id (pair_with o to) m.here.named.from_one within in
    let same : o ≡ to = subst (λ (p : Pair). p.first ≡ p.second) new short.alone in
    absurd (m.apart (ap packed (sym same))))
    (λ (ne : j ≢ id). record {
      named = short.named;
      alone = subst (λ (p : Pair). p.first ≡ p.second)
          (pair_set_other s.pairs id j (pair_with o to) m.here.named.from_one ne) short.alone;
    })
    (cases_eq j id)

-- the pair that was there held a false literal, so it guarded the other one; so does the new pair
moved_guards : (s : State) (at id : ℕ) (f o to : Lit) (low high : List Lit) → IsMove s at id f o to
    → ((l : Lit) → Contains low l → Contains s.lits l) → ((l : Lit) → Contains high l → Contains s.lits l)
    → Guards low high (pair_of s.pairs id) → Guards low high (pair_with o to)
moved_guards s at id f o to low high m in_low in_high g =
    let never : Contains low (negation o) → ⊥ = λ false_other. ⊎_elim
    (λ h. consistent s.lits f m.vars
    (in_high f (subst (Contains high) h.0
    (g.second (subst (λ l. Contains low (negation l)) (sym h.1) false_other)))) m.falsified)
    (λ h. consistent s.lits f m.vars
    (in_high f (subst (Contains high) h.1 (g.first (subst (λ l. Contains low (negation l)) (sym h.0) false_other))))
    m.falsified)
    m.here.pair in
    record {
      first = λ c. absurd (never c);
      second = λ c. absurd (m.not_false (in_low (negation to) c));
    }

moved_looked : (s : State) (at id : ℕ) (f o to : Lit) (low high : List Lit) (done : ℕ) → IsMove s at id f o to
    → id ≤ length s.pairs
    → ((l : Lit) → Contains low l → Contains s.lits l) → ((l : Lit) → Contains high l → Contains s.lits l)
    → IsLooked s.clauses s.pairs s.short low high done → IsLooked s.clauses (moved_pairs s id o to) s.short low high
    done
moved_looked s at id f o to low high done m within in_low in_high h = record {
  guarded = λ p there apart. ⊎_elim
      (λ (e : pair_with o to ≡ p). subst (Guards low high) e (moved_guards s at id f o to low high m in_low in_high
      (h.guarded (pair_of s.pairs id) (pair_there s.pairs id m.here.named.from_one within)
      (here_apart s at id f o m.here))))
      (λ old. h.guarded p old apart)
      (set_cases s.pairs (id - 1) (pair_with o to) p there);
  holds = h.holds;
}

-- the whole state after a move
pub kept_moved : (s : State) (at id : ℕ) (f o to : Lit) → IsKept s → IsMove s at id f o to → packed f < length s.lists
    → packed to < length s.lists → IsKept (with_pair s id (pair_with o to) (packed f) at (packed to))
kept_moved s at id f o to kept m lt lt2 =
    let within : id ≤ length s.pairs = let w = m.here.named.within in let long = kept.stored.watching.long in omega arith in
    record {
      stored = record {
        watching = rewatched s at id f o to kept m lt lt2;
        short = λ j c. moved_short s at id f o to m within j (kept.stored.short j c);
        all_short = λ j c. kept.stored.all_short j (short_moved s at id f o to m within j c);
        room = kept.stored.room;
        lists_long = let long = kept.stored.lists_long in omega (arith, length-set {A = Listed});
        ids_fit = kept.stored.ids_fit;
      };
      looked = moved_looked s at id f o to (take s.head s.lits) s.lits s.done m within
          (λ l c. from_front s.head s.lits l c) (λ l c. c) kept.looked;
      before = λ k k_lt. moved_looked s at id f o to _ _ _ m within (λ l c. from_front _ s.lits l c)
          (λ l c. from_front _ s.lits l c) (kept.before k k_lt);
      reasons = kept.reasons;
      head_within = kept.head_within;
      done_within = kept.done_within;
      reasons_long = kept.reasons_long;
      marks = kept.marks;
    }
