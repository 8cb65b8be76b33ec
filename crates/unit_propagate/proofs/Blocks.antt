-- A level begins with the literals of a block.
use Rattle.std.proofs.Common.{◌≡◌, ◌≢◌, ℕ, ◌<◌, ◌≤◌, ◌+◌, List, [], ◌∷◌, ◌++◌, length}
use Rattle.std.proofs.Common.{get_or, take, arith, ap, sym, subst, ◌∙◌, refl, ⊎_elim, length-append}
use Rattle.std.specs.Prelude.{Contains}
use Rattle.std.proofs.lemmas.List.{get_or_default, get_or-set_same, get_or-set_other, append-nil, append_assoc}
use Rattle.std.proofs.lemmas.List.Elements.{Contains-append_left, Contains-append_cases}
use Rattle.std.proofs.Math.ListN.{set}
use Rattle.std.proofs.lemmas.Bool.{cases_lt}
use Rattle.lists.proofs.Membership.{Contains-nil, Contains-cons_cases, Contains-pushed}
use Rattle.plain_lits.specs.declared.lit.Lit.{Lit}
use Rattle.plain_lits.specs.declared.value.Value.{Value}
use Rattle.plain_lits.specs.declared.value.Value.TheVariants.{True, False, Unset}
use Rattle.plain_lits.specs.Literals.{negation}
use Rattle.plain_lits.specs.Trails.{AreLevels}
use Rattle.plain_lits.specs.Values.{IsValueIn}
use Rattle.clause_watches.specs.Arenas.{blank}
use Rattle.unit_propagate.specs.Search.{GainsBlock, StaysSearch}
use Rattle.unit_propagate.specs.States.{State, IsKept, search_of}
use Rattle.unit_propagate.specs.Steps.{with_literal, with_mark, begun, Assumes, AssumesAll, MakesRoom}
use Rattle.clause_watches.specs.Picks.{HasVars}
use Rattle.clause_watches.proofs.Fronts.{front_cases, longer_front, in_front, from_front}
use Rattle.unit_propagate.proofs.Visiting.{kept_literal}

-- a level has begun, by what the trail becomes
pub begun_is : (s m : State) (lits : List Lit) (starts : List ℕ) (vars : ℕ) → m ≡ with_mark s → lits ≡ m.lits
    → starts ≡ m.starts ++ length m.lits ∷ [] → vars ≡ m.vars → record m { lits = lits; starts = starts; vars = vars }
    ≡ begun (with_mark s)
begun_is s m lits starts vars e e1 e2 e3 = rw (e1, e2, e3) (ap begun e)

pub marked_is : (s m : State) (lits : List Lit) (starts : List ℕ) (vars : ℕ) → m ≡ with_mark s → lits ≡ m.lits
    → starts ≡ m.starts → vars ≡ m.vars → record m { lits = lits; starts = starts; vars = vars } ≡ with_mark s
marked_is s m lits starts vars e e1 e2 e3 = rw (e1, e2, e3) e

-- a literal of the block comes
pub assumed_kept : (s new : State) (l : Lit) → IsKept s → AreLevels s.starts (length s.lits) → length s.lits < s.vars
    → new ≡ with_literal s l 0 → IsKept new
assumed_kept s new l kept levels before e =
    subst IsKept (sym e) (kept_literal s l 0 kept levels before (λ ne. absurd (ne refl)))

pub assumes_new : (s new : State) (l : Lit) → length s.lits < length s.reasons → new ≡ with_literal s l 0
    → Assumes s new l
assumes_new s new l within e = subst (λ (n : State). Assumes s n l) (sym e) (record {
  clauses = refl;
  starts = refl;
  vars = refl;
  more = (
    l ∷ [],
    refl,
    λ x c. ⊎_elim (λ is. sym is) (λ none. absurd (Contains-nil x none))
        (Contains-cons_cases l [] x c),
  );
  assumed = Contains-pushed s.lits l l refl;
  reasons = λ i lt. get_or-set_other s.reasons (length s.lits) i 0 0 (λ same. let bad : i ≡ length s.lits = same in
      omega arith);
  new_reasons = λ i le lt.
      let last : i ≡ length s.lits = omega (arith, length-append s.lits (l ∷ [])) in
      ap (λ k. get_or (set s.reasons (length s.lits) 0) k 0) last ∙ get_or-set_same s.reasons (length s.lits) 0 0
      within;
})

pub assumes_same : (s : State) (l : Lit) → Contains s.lits l → Assumes s s l
assumes_same s l c = record {
  clauses = refl;
  starts = refl;
  vars = refl;
  more = ([], sym (append-nil s.lits), λ x none. absurd (Contains-nil x none));
  assumed = c;
  reasons = λ i lt. refl;
  new_reasons = λ i le lt. absurd (omega arith);
}

pub true_of : (lits : List Lit) (l : Lit) (v : Value) → IsValueIn lits l v → v ≢ Unset
    → (Contains lits (negation l) → ⊥) → Contains lits l
true_of lits l True h ne open_lit = h.0
true_of lits l False h ne open_lit = absurd (open_lit h.0)
true_of lits l Unset h ne open_lit = absurd (ne refl)

pub assumes_none : (s : State) → AssumesAll s s []
assumes_none s = record {
  clauses = refl;
  starts = refl;
  vars = refl;
  more = ([], sym (append-nil s.lits), λ x none. none);
  assumed = λ l none. absurd (Contains-nil l none);
  reasons = λ i lt. refl;
  new_reasons = λ i le lt. absurd (omega arith);
}

pub assumes_next : (a b c : State) (block : List Lit) (i : ℕ) → i < length block → AssumesAll a b (take i block)
    → Assumes b c (get_or block i blank) → AssumesAll a c (take (i + 1) block)
assumes_next a b c block i lt h one =
    let r = h.more in
    let t = one.more in
    let here : Contains (take (i + 1) block) (get_or block i blank) = in_front (i + 1) i block (get_or block i blank)
    blank (omega arith) lt refl in
    let long : length b.lits ≡ length a.lits + length r.0 = ap length r.1 ∙ length-append a.lits r.0 in
    record {
      clauses = one.clauses ∙ h.clauses;
      starts = one.starts ∙ h.starts;
      vars = one.vars ∙ h.vars;
      more = (
        r.0 ++ t.0,
        t.1 ∙ (ap (λ xs. xs ++ t.0) r.1 ∙ append_assoc a.lits r.0 t.0),
        λ x there. ⊎_elim
            (λ old. longer_front i (i + 1) block x (omega arith) (r.2 x old))
            (λ new. subst (Contains (take (i + 1) block)) (sym (t.2 x new)) here)
            (Contains-append_cases r.0 t.0 x there),
      );
      assumed = λ l there. ⊎_elim
          (λ old. subst (λ xs. Contains xs l) (sym t.1) (Contains-append_left b.lits t.0 l (h.assumed l old)))
          (λ at. subst (Contains c.lits) (get_or_default block i blank l lt ∙ at.1) one.assumed)
          (front_cases i block l there);
      reasons = λ k k_lt. one.reasons k (omega arith) ∙ h.reasons k k_lt;
      new_reasons = λ k le k_lt. ⊎_elim
          (λ old. one.reasons k old ∙ h.new_reasons k le old)
          (λ new. one.new_reasons k new k_lt)
          (cases_lt k (length b.lits));
    }

-- the negation of a literal of the block isn't true yet
pub still_open : (a b : State) (block : List Lit) (i : ℕ) (l : Lit) → AssumesAll a b (take i block) → Contains block l
    → ((x : Lit) → Contains block x → Contains a.lits (negation x) → ⊥)
    → ((x : Lit) → Contains block x → Contains block (negation x) → ⊥) → Contains b.lits (negation l) → ⊥
still_open a b block i l h there not_false plain c =
    let r = h.more in
    ⊎_elim
    (λ old. not_false l there old)
    (λ new. plain l there (from_front i block (negation l) (r.2 (negation l) new)))
    (Contains-append_cases a.lits r.0 (negation l) (subst (λ xs. Contains xs (negation l)) r.1 c))

-- what callers see of it all
pub gains_block : (s m b new : State) (block : List Lit) (vars : ℕ) → MakesRoom s m → vars ≤ m.vars → HasVars block vars
    → b ≡ begun (with_mark m) → AssumesAll b new block → GainsBlock (search_of s) (search_of new) block
gains_block s m b new block vars room enough has e a =
    let lits : b.lits ≡ s.lits = ap (λ (n : State). n.lits) e ∙ ap (λ (n : State). n.lits) room.rest in
    let starts : b.starts ≡ m.starts ++ length m.lits ∷ [] = ap (λ (n : State). n.starts) e in
    let old_starts = ap (λ (n : State). n.starts) room.rest in
    let old_lits = ap (λ (n : State). n.lits) room.rest in
    let b_vars : b.vars ≡ m.vars = ap (λ (n : State). n.vars) e in
    let b_reasons : b.reasons ≡ m.reasons = ap (λ (n : State). n.reasons) e in
    let more_vars = room.vars in
    let r = a.more in
    record {
      clauses = a.clauses ∙ (ap (λ (n : State). n.clauses) e ∙ ap (λ (n : State). n.clauses) room.rest);
      starts = a.starts ∙ (starts ∙ (ap (λ xs. xs ++ length m.lits ∷ []) old_starts
          ∙ ap (λ xs. s.starts ++ length xs ∷ []) old_lits));
      more = (r.0, r.1 ∙ ap (λ xs. xs ++ r.0) lits, r.2);
      block_true = a.assumed;
      known = λ l c. let low = has.below l c in omega (arith, a.vars, b_vars, low);
      reasons = λ i lt. a.reasons i (omega (arith, ap length lits))
          ∙ (ap (λ xs. get_or xs i 0) b_reasons ∙ room.reasons.same i);
      new_reasons = λ i le lt. a.new_reasons i (omega (arith, ap length lits)) lt;
      vars = omega (arith, a.vars, b_vars, more_vars);
    }

pub stays_marked : (s m b : State) → StaysSearch (search_of s) (search_of m) → b ≡ with_mark m
    → StaysSearch (search_of s) (search_of b)
stays_marked s m b h e = subst (λ (n : State). StaysSearch (search_of s) (search_of n)) (sym e) h
