-- The look for a step that serves.
use Rattle.std.proofs.Common.{◌≡◌, ◌≢◌, ℕ, ◌<◌, ◌≤◌, ◌+◌, List, [], ◌∷◌, ◌++◌, length, get_or, take, map, arith, ap}
use Rattle.std.proofs.Common.{sym, subst, ◌∙◌, refl, ⊎_elim}
use Rattle.std.specs.Prelude.{Contains, ◌⊎◌}
use Rattle.std.proofs.lemmas.List.{get_or_default, take_more, map-append}
use Rattle.std.proofs.lemmas.List.Elements.{Contains-push_cases, Contains-append_left}
use Rattle.std.proofs.lemmas.Bool.{cases_lt}
use Rattle.lists.proofs.Membership.{Contains-nil, Contains-pushed}
use Rattle.plain_lits.specs.declared.lit.Lit.{Lit}
use Rattle.plain_lits.specs.declared.value.Value.{Value}
use Rattle.plain_lits.specs.declared.value.Value.TheVariants.{True, False, Unset}
use Rattle.plain_lits.specs.Literals.{negation}
use Rattle.plain_lits.specs.Values.{IsValueIn}
use Rattle.plain_lits.specs.HintCheck.{IsTautology}
use Rattle.clause_watches.proofs.Fronts.{from_front}
use Rattle.hinted_log.specs.Logs.{Step, IsStepOf}
use Rattle.sat_core.specs.Solving.{clause_of, Holds}
use Rattle.sleeping_clauses.specs.Steps.{FalsifiesAll, step_of}
use Rattle.sat_core.specs.Mirrors.{IsSubsuming}
use Rattle.plain_lits.proofs.CheckingLemmas.{negation-negation, negation_same}

pub denies_none : (clause lits : List Lit) → lits ≡ [] → FalsifiesAll (take 0 clause) lits
denies_none clause lits e = record {
  there = λ l c. absurd (Contains-nil l c);
  back = λ l c. absurd (Contains-nil (negation l) (subst (λ xs. Contains xs (negation l)) e c));
}

-- one literal more is denied
pub denies_more : (clause old new : List Lit) (i : ℕ) (d : Lit) → i < length clause → FalsifiesAll (take i clause) old
    → new ≡ old ++ negation (get_or clause i d) ∷ [] → FalsifiesAll (take (i + 1) clause) new
denies_more clause old new i d lt h e =
    let x = get_or clause i d in
    let more : take (i + 1) clause ≡ take i clause ++ x ∷ [] = take_more clause i d lt in
    record {
      there = λ l c. subst (λ xs. Contains xs (negation l)) (sym e)
          (⊎_elim (λ before. Contains-append_left old (negation x ∷ []) (negation l) (h.there l before))
          (λ (same : x ≡ l). Contains-pushed old (negation x) (negation l) (ap negation same))
          (Contains-push_cases (take i clause) x l (subst (λ xs. Contains xs l) more c)));
      back = λ l c. subst (λ xs. Contains xs l) (sym more)
          (⊎_elim (λ before. Contains-append_left (take i clause) (x ∷ []) l (h.back l before))
          (λ (same : negation x ≡ negation l). Contains-pushed (take i clause) x l (negation_same x l same))
          (Contains-push_cases old (negation x) (negation l) (subst (λ xs. Contains xs (negation l)) e c)));
    }

denied_of : (clause lits : List Lit) (i : ℕ) (x : Lit) (v : Value) → Contains clause x
    → (IsTautology negation clause → ⊥) → FalsifiesAll (take i clause) lits → IsValueIn lits x v → v ≢ Unset
    → Contains lits (negation x)
denied_of clause lits i x False there plain h value ne = value.0
denied_of clause lits i x Unset there plain h value ne = absurd (ne refl)
denied_of clause lits i x True there plain h value ne =
    let held : Contains (take i clause) (negation x) = h.back (negation x)
    (subst (Contains lits) (sym (negation-negation x)) value.0) in
    absurd (plain (x, there, from_front i clause (negation x) held))

-- a literal that has a value is denied already
pub denies_same : (clause lits : List Lit) (i : ℕ) (d : Lit) (v : Value) → i < length clause
    → (IsTautology negation clause → ⊥) → FalsifiesAll (take i clause) lits → IsValueIn lits (get_or clause i d) v
    → v ≢ Unset → FalsifiesAll (take (i + 1) clause) lits
denies_same clause lits i d v lt plain h value ne =
    let x = get_or clause i d in
    let there : Contains clause x = (i, lt, get_or_default clause i x d lt) in
    let falsified : Contains lits (negation x) = denied_of clause lits i x v there plain h value ne in
    let more : take (i + 1) clause ≡ take i clause ++ x ∷ [] = take_more clause i d lt in
    record {
      there = λ l c. ⊎_elim (λ before. h.there l before)
          (λ (same : x ≡ l). subst (λ y. Contains lits (negation y)) same falsified)
          (Contains-push_cases (take i clause) x l (subst (λ xs. Contains xs l) more c));
      back = λ l c. subst (λ xs. Contains xs l) (sym more) (Contains-append_left (take i clause) (x ∷ []) l (h.back
          l c));
    }

-- a step whose literals are all denied serves, and one with a literal that isn't denied doesn't
pub served_of : (steps : List Step) (clause lits : List Lit) (number : ℕ) → FalsifiesAll clause lits
    → IsStepOf steps number
    → ((l : Lit) → Contains (clause_of steps number) l → Contains lits (negation l)) → IsSubsuming steps clause number
served_of steps clause lits number d step all = record {
  step = step;
  held = record { each = λ l c. d.back l (all l c) };
}

-- the step of the next id
pub steps_more : (active ids : List ℕ) (steps new : List ℕ) (i step : ℕ) → i < length ids
    → steps ≡ map (step_of active) (take i ids) → new ≡ steps ++ step ∷ [] → step ≡ step_of active (get_or ids i 0)
    → new ≡ map (step_of active) (take (i + 1) ids)
steps_more active ids steps new i step lt e e2 e3 =
    e2 ∙ (ap (λ xs. xs ++ step ∷ []) e
    ∙ (ap (λ x. map (step_of active) (take i ids) ++ x ∷ []) e3
    ∙ (sym (map-append (step_of active) (take i ids) (get_or ids i 0 ∷ []))
    ∙ ap (map (step_of active)) (sym (take_more ids i 0 lt)))))

-- none of the steps up to a number serves
pub none_more : (steps : List Step) (clause lits part : List Lit) (index step : ℕ) → FalsifiesAll clause lits
    → ((n : ℕ) → 0 < n → n ≤ index → Holds clause (clause_of steps n) → ⊥) → step ≡ index + 1
    → part ≡ clause_of steps step
    → (l : Lit) × Contains part l × (Contains lits (negation l) → ⊥)
    → (n : ℕ) → 0 < n → n ≤ index + 1 → Holds clause (clause_of steps n) → ⊥
none_more steps clause lits part index step d before e part_is w n pos le h =
    ⊎_elim
    (λ (low : n < index + 1). before n pos (omega arith) h)
    (λ high.
    let same : step ≡ n = omega arith in
    let there : Contains (clause_of steps n) w.0 = subst (λ k. Contains (clause_of steps k) w.0) same
    (subst (λ xs. Contains xs w.0) part_is w.1) in
    w.2 (d.there w.0 (h.each w.0 there)))
    (cases_lt n (index + 1))
