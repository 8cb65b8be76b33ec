-- A clause comes whose literal becomes true at once.
use Rattle.std.proofs.Common.{◌≡◌, ℕ, List, [], ◌∷◌, ◌++◌, length, take}
use Rattle.std.proofs.Common.{arith, ap, sym, subst, ◌∙◌, refl, ⊎_elim, length-append}
use Rattle.std.specs.Prelude.{Contains}
use Rattle.std.proofs.lemmas.List.{take-append-le}
use Rattle.std.proofs.lemmas.List.Elements.{Contains-append_left}
use Rattle.lists.proofs.Membership.{Contains-pushed}
use Rattle.plain_lits.specs.declared.lit.Lit.{Lit}
use Rattle.plain_lits.specs.Literals.{negation}
use Rattle.clause_watches.specs.declared.pair.Pair.{Pair}
use Rattle.clause_watches.specs.Arenas.{pair_of}
use Rattle.clause_watches.specs.Picks.{WatchesLast}
use Rattle.unit_propagate.specs.Search.{Search, StaysSearch, StaysAssigned, GainsClause}
use Rattle.unit_propagate.specs.States.{State, IsKept, IsLooked, Guards, search_of}
use Rattle.unit_propagate.specs.Steps.{MakesRoom}
use Rattle.clause_watches.proofs.Fronts.{from_front, pushed_cases}
use Rattle.unit_propagate.proofs.Growing.{stays_room}

-- nothing is changed
pub stays : (s : State) → StaysSearch (search_of s) (search_of s)
stays s = record {
  clauses = refl;
  pairs = refl;
  assigned = record { lits = refl; starts = refl; reasons = λ i lt. refl; vars = omega arith };
}

assigned_more : (a b c : Search) → StaysAssigned a b → StaysAssigned b c → StaysAssigned a c
assigned_more a b c g h =
    let long : length b.lits ≡ length a.lits = ap length g.lits in
    let first = g.vars in
    let second = h.vars in
    record {
      lits = h.lits ∙ g.lits;
      starts = h.starts ∙ g.starts;
      reasons = λ i lt. h.reasons i (omega arith) ∙ g.reasons i lt;
      vars = omega arith;
    }

-- what callers see after room was made
pub stays_more : (s m w : State) → MakesRoom s m → StaysSearch (search_of m) (search_of w)
    → StaysSearch (search_of s) (search_of w)
stays_more s m w room h =
    let same = stays_room s m room in
    record {
      clauses = h.clauses ∙ same.clauses;
      pairs = h.pairs ∙ same.pairs;
      assigned = assigned_more (search_of s) (search_of m) (search_of w) same.assigned h.assigned;
    }

pub gains_more : (s m w : State) (clause : List Lit) (id : ℕ) → MakesRoom s m
    → GainsClause (search_of m) (search_of w) clause id → GainsClause (search_of s) (search_of w) clause id
gains_more s m w clause id room g =
    let same = stays_room s m room in
    record {
      clauses = g.clauses ∙ ap (λ cs. cs ++ clause ∷ []) same.clauses;
      id_is = g.id_is;
      known = g.known;
      watched = subst (λ xs. WatchesLast xs clause (pair_of w.pairs id)) same.assigned.lits g.watched;
      assigned = assigned_more (search_of s) (search_of m) (search_of w) same.assigned g.assigned;
    }

-- the new pair guards as far as propagation had come, since its first literal is true, and wasn't false before
looked_on : (s n : State) (p : Pair) (l : Lit) → IsKept s → IsKept n → n.pairs ≡ s.pairs ++ p ∷ []
    → n.lits ≡ s.lits ++ l ∷ [] → p.first ≡ l → (Contains s.lits (negation l) → ⊥)
    → IsLooked n.clauses n.pairs n.short (take s.head n.lits) n.lits n.done
looked_on s n p l kept new pairs lits first open_lit =
    let front : take s.head n.lits ≡ take s.head s.lits = ap (λ xs. take s.head xs) lits
    ∙ take-append-le s.head s.lits (l ∷ []) kept.head_within in
    let before : (x : Lit) → Contains (take s.head n.lits) x → Contains (take s.head s.lits) x =
    λ x c. subst (λ xs. Contains xs x) front c in
    let after : (x : Lit) → Contains s.lits x → Contains n.lits x =
    λ x c. subst (λ xs. Contains xs x) (sym lits) (Contains-append_left s.lits (l ∷ []) x c) in
    record {
      guarded = λ q there apart. ⊎_elim
          (λ (old : Contains s.pairs q).
          let g = kept.looked.guarded q old apart in
          let is : Guards (take s.head n.lits) n.lits q = record {
            first = λ c. after q.second (g.first (before (negation q.first) c));
            second = λ c. after q.first (g.second (before (negation q.second) c));
          } in
          is)
          (λ (e : p ≡ q).
          let same : q.first ≡ l = ap (λ (r : Pair). r.first) (sym e) ∙ first in
          let is : Guards (take s.head n.lits) n.lits q = record {
            first = λ c. absurd (open_lit (subst (λ x. Contains s.lits (negation x)) same
                (from_front s.head s.lits (negation q.first) (before (negation q.first) c))));
            second = λ c. subst (λ xs. Contains xs q.first) (sym lits) (Contains-pushed s.lits l q.first (sym same));
          } in
          is)
          (pushed_cases s.pairs p q (subst (λ ps. Contains ps q) pairs there));
      holds = new.looked.holds;
    }

-- so how far propagation had come is kept
pub kept_head : (s n : State) (p : Pair) (l : Lit) → IsKept s → IsKept n → n.pairs ≡ s.pairs ++ p ∷ []
    → n.lits ≡ s.lits ++ l ∷ [] → p.first ≡ l → (Contains s.lits (negation l) → ⊥)
    → IsKept (record n { head = s.head })
kept_head s n p l kept new pairs lits first open_lit =
    let within = kept.head_within in
    record {
      stored = new.stored;
      looked = looked_on s n p l kept new pairs lits first open_lit;
      before = new.before;
      reasons = new.reasons;
      head_within = omega (arith, ap length lits, length-append s.lits (l ∷ []));
      done_within = new.done_within;
      reasons_long = new.reasons_long;
      marks = new.marks;
    }
