-- What callers see of the arrays.
use Rattle.std.proofs.Common.{◌≡◌, ℕ, zero, suc, ◌<◌, ◌≤◌, List, [], ◌∷◌, length}
use Rattle.std.proofs.Common.{get_or, arith, ap, sym, subst, ◌∙◌, refl, inl, inr, ⊎_elim}
use Rattle.std.specs.Prelude.{◌↔◌, Contains, sum_by}
use Rattle.std.proofs.lemmas.List.{get_or_default}
use Rattle.lists.proofs.Membership.{Contains-nil, Contains-head, Contains-cons_cases}
use Rattle.plain_lits.specs.declared.lit.Lit.{Lit}
use Rattle.plain_lits.specs.Packed.{packed}
use Rattle.plain_lits.specs.Trails.{TrailState, IsTrailState}
use Rattle.plain_lits.specs.HintCheck.{IsUnit}
use Rattle.plain_lits.specs.Literals.{negation}
use Rattle.clause_watches.specs.declared.pair.Pair.{Pair}
use Rattle.unit_propagate.specs.declared.watch_state.Progress.{Progress}
use Rattle.clause_watches.specs.Arenas.{pair_of, no_pair}
use Rattle.unit_propagate.specs.Search.{IsSearch, IsWatchedBy, HasGrown}
use Rattle.unit_propagate.specs.States.{State, IsKept, search_of, no_progress, progress_at}
use Rattle.unit_propagate.specs.Steps.{Grows}
use Rattle.clause_watches.specs.WatchLists.{Listed, ids_at, one, watches}
use Rattle.clause_watches.proofs.Fronts.{packed_same}
use Rattle.unit_propagate.proofs.Lists.{IsSeen, listed_seen, seen_listed, watches_alone}

abbrev trail_in : State → TrailState
trail_in s = record { lits = s.lits; starts = s.starts; vars = s.vars }

pub is_search : (s : State) → IsKept s → IsTrailState (trail_in s) → IsSearch (search_of s)
is_search s kept form = record {
  apart = form.apart;
  within = form.within;
  short = form.short;
  levels = form.levels;
  reasons = kept.reasons;
}

pub has_grown : (s new : State) → Grows s new → HasGrown (search_of s) (search_of new)
has_grown s new g = record {
  clauses = g.clauses;
  starts = g.starts;
  vars = g.vars;
  more = g.more;
  reasons = g.reasons;
  new_reasons = g.new_reasons;
}

-- what stands in a list watches its literal, and what watches it stands there
pub watched : (s : State) (code : ℕ) (l : Lit) (ids : List ℕ) → IsKept s → code ≡ packed l → ids ≡ ids_at s.lists code
    → (id : ℕ)
    → Contains ids id ↔ IsWatchedBy (search_of s) id l
watched s code l ids kept code_is ids_are id = (
  λ c.
      let at : get_or ids c.0 0 ≡ id = get_or_default ids c.0 0 id c.1 ∙ c.2 in
      let same : get_or (ids_at s.lists code) c.0 0 ≡ id = sym (ap (λ xs. get_or xs c.0 0) ids_are) ∙ at in
      let seen : IsSeen s.clauses s.pairs code id = subst (IsSeen s.clauses s.pairs code) same
      (listed_seen s.clauses s.pairs s.lists code c.0 kept.stored.watching (subst (λ xs. c.0 < length xs) ids_are c.1)) in
      record {
        apart = λ e. seen.apart (ap packed e);
        one_of = ⊎_elim (λ e. inl (packed_same _ l (e ∙ code_is))) (λ e. inr (packed_same _ l (e ∙ code_is)))
            seen.one_of;
      },
  λ w.
      let at = seen_listed s.clauses s.pairs s.lists code id kept.stored.watching (λ e. w.apart (packed_same _ _ e))
      (⊎_elim (λ e. inl (ap packed e ∙ sym code_is)) (λ e. inr (ap packed e ∙ sym code_is)) w.one_of) in
      subst (λ xs. Contains xs id) (sym ids_are) (
        at.0,
        at.1,
        get_or_default (ids_at s.lists code) at.0 id 0 at.1
            ∙ at.2,
      ),
)

-- a literal of no known variable isn't watched
pub unwatched : (s : State) (l : Lit) → IsKept s → s.vars ≤ l.var → (id : ℕ) → Contains [] id
    ↔ IsWatchedBy (search_of s) id l
unwatched s l kept far id = (
  λ c. absurd (Contains-nil id c),
  λ w.
      let at = seen_listed s.clauses s.pairs s.lists (packed l) id kept.stored.watching (λ e. w.apart (packed_same _ _ e))
      (⊎_elim (λ e. inl (ap packed e)) (λ e. inr (ap packed e)) w.one_of) in
      let seen : IsSeen s.clauses s.pairs (packed l) id = subst (IsSeen s.clauses s.pairs (packed l)) at.2
      (listed_seen s.clauses s.pairs s.lists (packed l) at.0 kept.stored.watching at.1) in
      let is = kept.stored.watching.paired id seen.named in
      ⊎_elim
      (λ e. let low = kept.stored.room id _ seen.named (is.first w.apart) in let var = ap (λ (x : Lit). x.var) e in
      absurd (omega arith))
      (λ e. let low = kept.stored.room id _ seen.named (is.second w.apart) in let var = ap (λ (x : Lit). x.var) e in
      absurd (omega arith))
      w.one_of,
)

-- nothing is there
abbrev pub opened : State
opened = record {
  clauses = [];
  pairs = [];
  lists = [];
  short = [];
  lits = [];
  starts = [];
  vars = 0;
  reasons = [];
  progress = no_progress ∷ [];
  head = 0;
  done = 0;
}

mark_none : (n : ℕ) → progress_at (no_progress ∷ []) n ≡ no_progress
mark_none zero = refl
mark_none (suc n) = refl

none_listed : (code id : ℕ) → sum_by (one id) (ids_at [] code) ≡ watches code (pair_of [] id)
none_listed code zero = sym (watches_alone code no_pair refl)
none_listed code (suc id) = sym (watches_alone code no_pair refl)

pub kept_opened : IsKept opened
kept_opened = record {
  stored = record {
    watching = record {
      long = refl;
      paired = λ id named. let above = named.from_one in let within = named.within in absurd (omega arith);
      listed = λ code id. none_listed code id;
      counted = λ code. refl;
      room = λ code. omega arith;
    };
    short = λ id c. absurd (Contains-nil id c);
    all_short = λ id h. let above = h.named.from_one in let within = h.named.within in absurd (omega arith);
    room = λ id l named c. let above = named.from_one in let within = named.within in absurd (omega arith);
    lists_long = omega arith;
    ids_fit = omega arith;
  };
  looked = record { guarded = λ p c. absurd (Contains-nil p c); holds = λ id c. absurd (Contains-nil id c) };
  before = λ k lt. absurd (omega arith);
  reasons = λ i lt. absurd (omega arith);
  head_within = omega arith;
  done_within = omega arith;
  reasons_long = omega arith;
  marks = record {
    long = omega arith;
    head = λ n. omega (arith, ap (λ (m : Progress). m.head) (mark_none n));
    done = λ n. omega (arith, ap (λ (m : Progress). m.done) (mark_none n));
  };
}

pub kept_open : (clauses : List (List Lit)) (pairs : List Pair) (lists : List Listed) (short : List ℕ) (lits : List Lit)
    (starts : List ℕ)
    (vars : ℕ) (reasons : List ℕ) (progress : List Progress) → clauses ≡ [] → pairs ≡ [] → lists ≡ [] → short ≡ [] →
    lits ≡ []
    → starts ≡ []
    → vars ≡ 0 → reasons ≡ [] → progress ≡ no_progress ∷ []
    → IsKept (record opened {
      clauses = clauses;
      pairs = pairs;
      lists = lists;
      short = short;
      lits = lits;
      starts =
          starts;
      vars = vars;
      reasons = reasons;
      progress = progress;
    })
kept_open clauses pairs lists short lits starts vars reasons progress e1 e2 e3 e4 e5 e6 e7 e8 e9 =
    rw (e1, e2, e3, e4, e5, e6, e7, e8, e9) kept_opened

-- a clause of one literal is unit where nothing is true
pub unit_alone : (lits : List Lit) (l : Lit) → lits ≡ [] → IsUnit negation lits (l ∷ []) l
unit_alone lits l e = rw e (record {
  there = Contains-head l [] l refl;
  not_true = λ c. Contains-nil l c;
  not_false = λ c. Contains-nil (negation l) c;
  others = λ x c ne. ⊎_elim (λ is. absurd (ne (sym is))) (λ none. absurd (Contains-nil x none))
      (Contains-cons_cases l [] x c);
})
