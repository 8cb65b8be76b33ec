-- How far propagation comes, and what it means that all is looked at.
use Rattle.std.proofs.Common.{◌≡◌, ◌≢◌, ℕ, suc, ◌<◌, ◌≤◌, ◌+◌, List, [], length}
use Rattle.std.proofs.Common.{get_or, take, arith, ap, sym, subst, ◌∙◌, refl, inl, inr, ⊎_elim}
use Rattle.std.proofs.Common.{length-append}
use Rattle.std.specs.Prelude.{◌⊎◌, Contains, Option, Some, None, IfSome}
use Rattle.std.proofs.lemmas.List.{get_or_default, get_or_append_left, take_all}
use Rattle.std.proofs.lemmas.List.Elements.{Contains-get_or}
use Rattle.plain_lits.specs.declared.lit.Lit.{Lit}
use Rattle.plain_lits.specs.Literals.{negation}
use Rattle.plain_lits.specs.Packed.{packed}
use Rattle.plain_lits.specs.Trails.{VarsDiffer}
use Rattle.plain_lits.specs.HintCheck.{clause_at, IsNamed, IsFalsified, IsUnit}
use Rattle.plain_lits.proofs.CheckingLemmas.{negation-negation, negation_same}
use Rattle.clause_watches.specs.declared.pair.Pair.{Pair}
use Rattle.clause_watches.specs.Arenas.{pair_of, no_pair}
use Rattle.unit_propagate.specs.Search.{IsConflict}
use Rattle.unit_propagate.specs.States.{State, IsKept, IsShort, Guards, HasTrue}
use Rattle.unit_propagate.specs.Steps.{AreDone, Grows, IsImplied, HasVisited, IsFound}
use Rattle.clause_watches.specs.WatchLists.{ids_at}
use Rattle.clause_watches.proofs.Fronts.{packed_same, front_cases, consistent}
use Rattle.unit_propagate.proofs.Lists.{seen_listed}
use Rattle.unit_propagate.proofs.Moving.{pair_there}
use Rattle.plain_lits.proofs.OneOutcome.{cases_lit}

-- each pair is that of an id
pub pair_named : (pairs : List Pair) (p : Pair) → Contains pairs p
    → (id : ℕ) × (0 < id) × (id ≤ length pairs) × (pair_of pairs id ≡ p)
pair_named pairs p c =
    let lt = c.1 in
    (suc c.0, omega arith, omega arith, get_or_default pairs c.0 no_pair p c.1 ∙ c.2)

-- a pair with the false literal has the other one true, once the whole list of the literal is done
pair_done : (s : State) (f : Lit) (p : Pair) → IsKept s → AreDone s f (length (ids_at s.lists (packed f)))
    → Contains s.pairs p → p.first ≢ p.second → (p.first ≡ f → Contains s.lits p.second)
    × (p.second ≡ f → Contains s.lits p.first)
pair_done s f p kept done there apart =
    let n = pair_named s.pairs p there in
    let id = n.0 in
    let is : pair_of s.pairs id ≡ p = n.3 in
    let codes : packed (pair_of s.pairs id).first ≢ packed (pair_of s.pairs id).second =
    λ e. apart (sym (ap (λ (q : Pair). q.first) is) ∙ (packed_same _ _ e ∙ ap (λ (q : Pair). q.second) is)) in (
      λ e.
          let first : (pair_of s.pairs id).first ≡ f = ap (λ (q : Pair). q.first) is ∙ e in
          let at = seen_listed s.clauses s.pairs s.lists (packed f) id kept.stored.watching codes (inl (ap packed first)) in
          let listed : get_or (ids_at s.lists (packed f)) at.0 0 ≡ id = at.2 in
          subst (λ (q : Pair). Contains s.lits q.second) is
          (subst (λ k. Contains s.lits (pair_of s.pairs k).second) listed
          (done.first at.0 at.1 at.1 (ap (λ k. (pair_of s.pairs k).first) listed ∙ first))),
      λ e.
          let second : (pair_of s.pairs id).second ≡ f = ap (λ (q : Pair). q.second) is ∙ e in
          let at = seen_listed s.clauses s.pairs s.lists (packed f) id kept.stored.watching codes (inr (ap packed second)) in
          let listed : get_or (ids_at s.lists (packed f)) at.0 0 ≡ id = at.2 in
          subst (λ (q : Pair). Contains s.lits q.first) is
          (subst (λ k. Contains s.lits (pair_of s.pairs k).first) listed
          (done.second at.0 at.1 at.1 (ap (λ k. (pair_of s.pairs k).second) listed ∙ second))),
    )

-- the next true literal is looked at
pub kept_next : (s : State) (f d : Lit) → IsKept s → s.head < length s.lits → get_or s.lits s.head d ≡ negation f
    → AreDone s f (length (ids_at s.lists (packed f))) → IsKept (record s { head = s.head + 1 })
kept_next s f d kept lt is done = record {
  stored = kept.stored;
  looked = record {
    guarded = λ p there apart.
        let old = kept.looked.guarded p there apart in
        let new = pair_done s f p kept done there apart in
        let same : (l : Lit) → get_or s.lits s.head (negation l) ≡ negation l → l ≡ f =
        λ l e. negation_same l f (sym e ∙ (get_or_default s.lits s.head (negation l) d lt ∙ is)) in
        record {
          first = λ c. ⊎_elim (λ low. old.first low) (λ here. new.0 (same p.first here.1))
              (front_cases s.head s.lits (negation p.first) c);
          second = λ c. ⊎_elim (λ low. old.second low) (λ here. new.1 (same p.second here.1))
              (front_cases s.head s.lits (negation p.second) c);
        };
    holds = kept.looked.holds;
  };
  before = kept.before;
  reasons = kept.reasons;
  head_within = omega arith;
  done_within = kept.done_within;
  reasons_long = kept.reasons_long;
  marks = kept.marks;
}

-- the next clause that watches nothing is looked at
pub kept_done : (s : State) (id : ℕ) → IsKept s → s.done < length s.short → get_or s.short s.done 0 ≡ id
    → HasTrue (clause_at s.clauses id) s.lits → IsKept (record s { done = s.done + 1 })
kept_done s id kept lt is t = record {
  stored = kept.stored;
  looked = record {
    guarded = kept.looked.guarded;
    holds = λ j c. ⊎_elim (λ old. kept.looked.holds j old)
        (λ here. let e : id ≡ j = sym is ∙ (get_or_default s.short s.done 0 j lt ∙ here.1) in
        subst (λ k. HasTrue (clause_at s.clauses k) s.lits) e t)
        (front_cases s.done s.short j c);
  };
  before = kept.before;
  reasons = kept.reasons;
  head_within = kept.head_within;
  done_within = omega arith;
  reasons_long = kept.reasons_long;
  marks = kept.marks;
}

-- a clause of one literal
pub alone : (s : State) (id : ℕ) (a b : Lit) → IsKept s → IsShort s.clauses s.pairs id
    → Contains (clause_at s.clauses id) a
    → Contains (clause_at s.clauses id) b → a ≡ b
alone s id a b kept short in_a in_b = (kept.stored.watching.paired id short.named).alone short.alone a b in_a in_b

pub short_fails : (s : State) (id : ℕ) (a : Lit) → IsKept s → IsShort s.clauses s.pairs id
    → Contains (clause_at s.clauses id) a
    → Contains s.lits (negation a) → IsConflict s.clauses s.lits id
short_fails s id a kept short in_a false_a = record {
  named = short.named;
  all_false = record {
    each = λ x c. subst (λ l. Contains s.lits (negation l)) (alone s id a x kept short in_a c)
        false_a;
  };
}

pub short_implied : (s : State) (id : ℕ) (a : Lit) → IsKept s → IsShort s.clauses s.pairs id
    → Contains (clause_at s.clauses id) a
    → IsImplied s a id
short_implied s id a kept short in_a = record {
  named = short.named;
  there = in_a;
  others = λ x c ne. absurd (ne (alone s id x a kept short c in_a));
}

pub empty_fails : (s : State) (id : ℕ) → IsShort s.clauses s.pairs id → clause_at s.clauses id ≡ []
    → IsConflict s.clauses s.lits id
empty_fails s id short e = record {
  named = short.named;
  all_false = record {
    each = λ x c. let none : Contains [] x = subst (λ xs. Contains xs x) e c in let bad = none.1 in
        absurd (omega arith);
  };
}

-- when all is looked at, each pair guards
guards_all : (s : State) → IsKept s → s.head ≡ length s.lits → (p : Pair) → Contains s.pairs p → p.first ≢ p.second
    → Guards s.lits s.lits p
guards_all s kept e p there apart =
    subst (λ low. Guards low s.lits p) (ap (λ n. take n s.lits) e ∙ take_all (length s.lits) s.lits (omega arith))
    (kept.looked.guarded p there apart)

shorts_all : (s : State) → IsKept s → s.done ≡ length s.short → (id : ℕ) → IsShort s.clauses s.pairs id
    → HasTrue (clause_at s.clauses id) s.lits
shorts_all s kept e id short =
    kept.looked.holds id (subst (λ xs. Contains xs id)
    (sym (ap (λ n. take n s.short) e ∙ take_all (length s.short) s.short (omega arith))) (kept.stored.all_short id short))

-- a clause with a true literal isn't unit
true_no_unit : (s : State) (id : ℕ) (l : Lit) → VarsDiffer s.lits → HasTrue (clause_at s.clauses id) s.lits
    → IsUnit negation s.lits (clause_at s.clauses id) l → ⊥
true_no_unit s id l vars t u =
    let x = t.some in
    ⊎_elim (λ e. u.not_true (subst (Contains s.lits) e x.2))
    (λ ne. consistent s.lits x.0 vars x.2 (u.others x.0 x.1 ne)) (cases_lit x.0 l)

true_no_false : (s : State) (id : ℕ) → VarsDiffer s.lits → HasTrue (clause_at s.clauses id) s.lits
    → IsFalsified negation s.lits (clause_at s.clauses id) → ⊥
true_no_false s id vars t u = let x = t.some in consistent s.lits x.0 vars x.2 (u.each x.0 x.1)

-- a clause that watches two literals, of which each guards the other, has a true one where it is false or unit
guarded_true : (s : State) (id : ℕ) → IsKept s → IsNamed s.clauses id → (pair_of s.pairs id).first ≢
    (pair_of s.pairs id).second
    → Guards s.lits s.lits (pair_of s.pairs id)
    → (Contains s.lits (negation (pair_of s.pairs id).first) ⊎ Contains s.lits (negation (pair_of s.pairs id).second))
    → HasTrue (clause_at s.clauses id) s.lits
guarded_true s id kept named apart g one_false =
    let is = kept.stored.watching.paired id named in
    ⊎_elim (λ c. record { some = ((pair_of s.pairs id).second, is.second apart, g.first c) })
    (λ c. record { some = ((pair_of s.pairs id).first, is.first apart, g.second c) }) one_false

-- so nothing is left to do
pub quiet : (s : State) → IsKept s → VarsDiffer s.lits → s.head ≡ length s.lits → s.done ≡ length s.short
    → IsFound s None
quiet s kept vars all done = (
  record {
    not_false = λ id named u. ⊎_elim
        (λ same. true_no_false s id vars (shorts_all s kept done id (record { named = named; alone = same })) u)
        (λ apart.
        let is = kept.stored.watching.paired id named in
        let long = kept.stored.watching.long in
        let above = named.from_one in
        let within = named.within in
        let g = guards_all s kept all (pair_of s.pairs id) (pair_there s.pairs id above (omega arith)) apart in
        true_no_false s id vars (guarded_true s id kept named apart g (inl (u.each _ (is.first apart)))) u)
        (cases_lit (pair_of s.pairs id).first (pair_of s.pairs id).second);
    not_unit = λ id l named u. ⊎_elim
        (λ same. true_no_unit s id l vars (shorts_all s kept done id (record { named = named; alone = same })) u)
        (λ apart.
        let is = kept.stored.watching.paired id named in
        let long = kept.stored.watching.long in
        let above = named.from_one in
        let within = named.within in
        let g = guards_all s kept all (pair_of s.pairs id) (pair_there s.pairs id above (omega arith)) apart in
        true_no_unit s id l vars (guarded_true s id kept named apart g (⊎_elim
        (λ e. inr (u.others _ (is.second apart) (λ e2. apart (e ∙ sym e2))))
        (λ ne. inl (u.others _ (is.first apart) ne))
        (cases_lit (pair_of s.pairs id).first l))) u)
        (cases_lit (pair_of s.pairs id).first (pair_of s.pairs id).second);
  },
  record {
    first = λ p there apart. (guards_all s kept all p there apart).first;
    second = λ p there apart. (guards_all s kept all p there apart).second;
  },
)

-- the literal that the next true literal makes false
pub next_there : (lits now : List Lit) (i : ℕ) (d f : Lit) → i < length lits → now ≡ lits → f
    ≡ negation (get_or now i d)
    → Contains lits (negation f)
next_there lits now i d f lt same f_is =
    let e : negation f ≡ get_or lits i d = ap negation f_is
    ∙ (negation-negation (get_or now i d) ∙ ap (λ xs. get_or xs i d) same) in
    subst (Contains lits) (sym e) (Contains-get_or lits i d lt)

pub next_is : (lits now : List Lit) (i : ℕ) (d f : Lit) → now ≡ lits → f ≡ negation (get_or now i d)
    → get_or lits i d ≡ negation f
next_is lits now i d f same f_is =
    sym (ap negation f_is ∙ (negation-negation (get_or now i d) ∙ ap (λ xs. get_or xs i d) same))

pub next_var : (lits now : List Lit) (i vars : ℕ) (d f : Lit) → i < length lits → now ≡ lits
    → ((l : Lit) → Contains lits l → l.var < vars) → f ≡ negation (get_or now i d) → f.var < vars
next_var lits now i vars d f lt same within f_is =
    within (negation f) (next_there lits now i d f lt same f_is)

pub found_of : (s : State) (r : Option ℕ) → IsKept s → VarsDiffer s.lits → IfSome r (IsConflict s.clauses s.lits)
    → (r ≡ None → s.head ≡ length s.lits) → s.done ≡ length s.short → IsFound s r
found_of s None kept vars conflict all done = quiet s kept vars (all refl) done
found_of s (Some id) kept vars conflict all done = conflict

-- the next clause that watches nothing
pub short_at : (s : State) (i id : ℕ) → IsKept s → i < length s.short → get_or s.short i 0 ≡ id
    → IsShort s.clauses s.pairs id
short_at s i id kept lt e = kept.stored.short id (i, lt, get_or_default s.short i id 0 lt ∙ e)

-- is looked at, by what the state has become
pub done_kept : (s new : State) (id : ℕ) → IsKept new → Grows s new → new.done ≡ s.done → s.done < length s.short
    → get_or s.short s.done 0 ≡ id → HasTrue (clause_at new.clauses id) new.lits
    → IsKept (record new { done = new.done + 1 })
done_kept s new id kept g same lt is t =
    kept_done new id kept (omega (arith, same, ap length g.short)) (ap (λ n. get_or new.short n 0) same
    ∙ (ap (λ xs. get_or xs s.done 0) g.short ∙ is)) t

-- the next true literal is looked at, by what the state has become
pub pass_kept : (s new : State) (d f : Lit) → IsKept new → Grows s new → new.head ≡ s.head → s.head < length s.lits
    → get_or s.lits s.head d ≡ negation f → HasVisited new f None → IsKept (record new { head = new.head + 1 })
pass_kept s new d f kept g same lt is done =
    let r = g.more in
    let long = ap length r.1 in
    kept_next new f d kept (omega (arith, same, long, length-append s.lits r.0))
    (ap (λ n. get_or new.lits n d) same
    ∙ (ap (λ xs. get_or xs s.head d) r.1 ∙ (get_or_append_left s.lits r.0 d s.head lt ∙ is))) done
