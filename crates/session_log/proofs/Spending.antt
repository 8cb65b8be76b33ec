-- What a step that a log gains spends.
use Rattle.std.proofs.Common.{◌≡◌, ⊎_elim, ℕ, ◌+◌, ◌<◌, ◌≤◌, Bool, true, false, List, [], ◌∷◌, ◌++◌, length, take, cond}
use Rattle.std.proofs.Common.{refl, ap, sym, subst, ◌∙◌, arith}
use Rattle.std.specs.Prelude.{◌&&◌, count_by, slice_index_or, Option, Some, None}
use Rattle.std.proofs.lemmas.Bool.{false≢true}
use Rattle.std.proofs.lemmas.List.{get_or_push, length_push, take_all, take-append-le}
use Rattle.lists.proofs.Counts.{count_by-cons}
use Rattle.lists.proofs.Membership.{Contains-cons_cases}
use Rattle.plain_lits.specs.Units.{Units}
use Rattle.semantics.specs.Arguments.{IsArgument}
use Rattle.semantics.specs.Frameworks.{Framework, af, aba}
use Rattle.meaning_atoms.specs.declared.atom.Atom.{Atom}
use Rattle.meaning_atoms.specs.declared.atom.Atom.TheVariants.{Member, Range, Tail, Hit, Ask}
use Rattle.meaning_atoms.specs.declared.atom.Closure.TheVariants.{Own}
use Rattle.meaning_atoms.specs.declared.atom.AtomLit.{AtomLit}
use Rattle.meaning_atoms.specs.declared.axiom.AxiomName.{AxiomName}
use Rattle.meaning_atoms.specs.Literals.{denied}
use Rattle.meaning_atoms.specs.Worlds.{IsFact}
use Rattle.oracle_face.specs.certificate_claims.specs.Refutations.{axiom_clause}
use Rattle.oracle_face.specs.declared.entry.EntryName.{EntryName}
use Rattle.oracle_face.specs.Goals.{IsSide, Tells}
use Rattle.oracle_face.specs.Growing.{Works}
use Rattle.oracle_face.specs.Logs.{OracleLog, LogStep, SideClause, by_axiom, by_side, FactsAreFalse, IsLog, IsNew}
use Rattle.oracle_face.specs.Logs.{IsSameClause, closings_of, guarded, is_loop, is_unit, no_step, units_of, working}
use Rattle.session_log.specs.Guards.{IsGuarded}
use Rattle.session_log.specs.Steps.{GainsStep, TakesAxiom, TakesSide, Derives, Spends, axiom_step, derived_step, own_step}
use Rattle.session_log.proofs.NewSides.{side_is_new}
use Rattle.lists.proofs.TruthValues.{and_false}

-- ---- one step more

abbrev one_if : Bool → ℕ
one_if b = cond b 1 0

count_push : {X : Type 0} (p : X → Bool) (xs : List X) (x : X)
    → count_by p (xs ++ x ∷ []) ≡ count_by p xs + one_if (p x)
count_push p [] x = count_by-cons p x [] ∙ omega arith
count_push p (y ∷ ys) x =
    count_by-cons p y (ys ++ x ∷ [])
    ∙ (ap (λ (n : ℕ). one_if (p y) + n) (count_push p ys x)
    ∙ (omega arith ∙ ap (λ (n : ℕ). n + one_if (p x)) (sym (count_by-cons p y ys))))

-- the step is new to what searches used, and says no fact but a false one
record IsWork (f : Framework) (old : OracleLog) (clause : List AtomLit) : Type 0 where
  fresh : IsNew (working old.steps) clause
  facts : FactsAreFalse f clause

module _ (f : Framework) (step : LogStep) (sides : List SideClause) (old new : OracleLog)
    (gains : GainsStep step sides old new) where
  units_gained : units_of new ≡ units_of old + one_if (is_unit step)
  units_gained = ap (λ (steps : List LogStep). count_by is_unit steps) gains.steps ∙ count_push is_unit old.steps step

  closings_gained : closings_of new ≡ closings_of old + one_if step.closing
  closings_gained =
      ap (λ (steps : List LogStep). count_by (λ (s : LogStep). s.closing) steps) gains.steps
      ∙ count_push (λ (s : LogStep). s.closing) old.steps step

  only_top : (k : ℕ) → length old.steps ≤ k → k < length new.steps → length old.steps ≡ k
  only_top k low high = omega (arith, ap length gains.steps, length_push old.steps step)

  step_there : (k : ℕ) → length old.steps ≡ k → slice_index_or new.steps k no_step ≡ step
  step_there k e =
      ap (λ (steps : List LogStep). slice_index_or steps k no_step) gains.steps ∙ get_or_push old.steps step no_step k e

  front_there : (k : ℕ) → length old.steps ≡ k → take k new.steps ≡ old.steps
  front_there k e =
      ap (λ (steps : List LogStep). take k steps) gains.steps
      ∙ (take-append-le k old.steps (step ∷ []) (omega arith) ∙ take_all k old.steps (omega arith))

  works_by : (is_unit step ≡ true → IsWork f old step.clause) → (count : ℕ) → one_if (is_unit step) ≡ count
      → (before after : Units) → after.used ≡ before.used + count → Works f old new before after
  works_by work count is before after spent = record {
    fresh = λ k low high unit.
        let e = only_top k low high in
        let w = work (subst (λ (s : LogStep). is_unit s ≡ true) (step_there k e) unit) in
        subst (λ (steps : List LogStep). IsNew (working steps) (slice_index_or new.steps k no_step).clause)
        (sym (front_there k e))
        (subst (λ (s : LogStep). IsNew (working old.steps) s.clause) (sym (step_there k e)) w.fresh);
    facts = λ k low high unit.
        let e = only_top k low high in
        let w = work (subst (λ (s : LogStep). is_unit s ≡ true) (step_there k e) unit) in
        subst (λ (s : LogStep). FactsAreFalse f s.clause) (sym (step_there k e)) w.facts;
    counted = omega (arith, units_gained, is, spent);
  }

  spends_by : (is_unit step ≡ true → IsWork f old step.clause) → (count closings : ℕ)
      → one_if (is_unit step) ≡ count → one_if step.closing ≡ closings → Spends f old new count closings
  spends_by work count closings is closes = record {
    works = works_by work count is;
    closes = closings_gained ∙ ap (λ (n : ℕ). closings_of old + n) closes;
  }

-- ---- axioms

not_work : (b : Bool) → b ≡ false → b && true ≡ true → ⊥
not_work true e h = false≢true (sym e)
not_work false e h = false≢true h

no_unit : (b : Bool) → b ≡ false → one_if (b && true) ≡ 0
no_unit true e = absurd (false≢true (sym e))
no_unit false e = refl

pub axiom_spends : (f : Framework) (name : AxiomName) (clause : List AtomLit) (old new : OracleLog)
    → is_loop name ≡ false → TakesAxiom name clause old new → Spends f old new 0 0
axiom_spends f name clause old new no_loop takes =
    spends_by f (own_step clause (by_axiom name)) old.sides old new takes.gains
    (λ unit. absurd (not_work (is_loop name) no_loop unit)) 0 0 (no_unit (is_loop name) no_loop) refl

pub axiom_entry_spends : (f : Framework) (name : AxiomName) (clause : List AtomLit) (entry : EntryName)
    (old new : OracleLog) → GainsStep (axiom_step name clause (Some entry)) old.sides old new
    → Spends f old new 0 0
axiom_entry_spends f name clause entry old new gains =
    let none = and_false (is_loop name) in
    spends_by f (axiom_step name clause (Some entry)) old.sides old new gains
    (λ unit. absurd (false≢true (sym none ∙ unit))) 0 0 (ap one_if none) refl

is_work_of : (b : Bool) → b ≡ true → one_if (b && true) ≡ 1
is_work_of true e = refl
is_work_of false e = absurd (false≢true e)

new_same : (list : List (List AtomLit)) (clause other : List AtomLit) → IsSameClause clause other → IsNew list other
    → IsNew list clause
new_same list clause other same fresh = record {
  plain = λ t. fresh.plain (t.0, same.there t.0 t.1, same.there _ t.2);
  no_part = λ part. fresh.no_part (record {
    part = part.part;
    listed = part.listed;
    inside = λ l c. same.there l (part.inside l c);
  });
}

pub loop_spends : (f : Framework) (name : AxiomName) (clause : List AtomLit) (old new : OracleLog)
    → is_loop name ≡ true → IsNew (working old.steps) (axiom_clause name) → FactsAreFalse f (axiom_clause name)
    → TakesAxiom name clause old new → Spends f old new 1 0
loop_spends f name clause old new loop fresh facts takes =
    spends_by f (own_step clause (by_axiom name)) old.sides old new takes.gains
    (λ unit. record {
      fresh = new_same (working old.steps) clause (axiom_clause name) takes.same fresh;
      facts = record { false_there = λ l c fact. facts.false_there l (takes.same.there l c) fact };
    }) 1 0 (is_work_of (is_loop name) loop) refl

-- ---- derived clauses

pub learned_spends : (f : Framework) (clause : List AtomLit) (hints : List ℕ) (old new : OracleLog)
    → IsNew (working old.steps) clause → FactsAreFalse f clause → Derives clause hints None false old new
    → Spends f old new 1 0
learned_spends f clause hints old new fresh facts derives =
    spends_by f (derived_step clause hints None false) old.sides old new derives.gains
    (λ unit. record { fresh = fresh; facts = facts }) 1 0 refl refl

closing_unit : (clause : List AtomLit) (hints : List ℕ) (imported : Option EntryName)
    → is_unit (derived_step clause hints imported true) ≡ false
closing_unit clause hints None = refl
closing_unit clause hints (Some name) = refl

pub closing_spends : (f : Framework) (clause : List AtomLit) (hints : List ℕ) (imported : Option EntryName)
    (old new : OracleLog) → Derives clause hints imported true old new → Spends f old new 0 1
closing_spends f clause hints imported old new derives =
    let none = closing_unit clause hints imported in
    spends_by f (derived_step clause hints imported true) old.sides old new derives.gains
    (λ unit. absurd (false≢true (sym none ∙ unit))) 0 1 (ap one_if none) refl

pub imported_spends : (f : Framework) (clause : List AtomLit) (hints : List ℕ) (name : EntryName)
    (old new : OracleLog) → Derives clause hints (Some name) false old new → Spends f old new 0 0
imported_spends f clause hints name old new derives =
    spends_by f (derived_step clause hints (Some name) false) old.sides old new derives.gains
    (λ unit. absurd (false≢true unit)) 0 0 refl refl

-- ---- side clauses

tells_no_fact : (f : Framework) (atom : Atom) (positive : Bool) → Tells IsArgument atom positive → IsFact f atom → ⊥
tells_no_fact (af f) (Member a) positive tells fact = fact
tells_no_fact (af f) (Range a) true tells fact = fact
tells_no_fact (af f) (Tail a i) true tells fact = fact
tells_no_fact (af f) (Hit Own a i) true tells fact = fact
tells_no_fact (af f) _ positive tells fact = absurd tells
tells_no_fact (aba f) (Member a) positive tells fact = fact
tells_no_fact (aba f) (Range a) true tells fact = fact
tells_no_fact (aba f) (Tail a i) true tells fact = fact
tells_no_fact (aba f) (Hit Own a i) true tells fact = fact
tells_no_fact (aba f) _ positive tells fact = absurd tells

ask_no_fact : (f : Framework) (n : ℕ) → IsFact f (Ask n) → ⊥
ask_no_fact (af f) n fact = fact
ask_no_fact (aba f) n fact = fact

side_no_facts : (f : Framework) (n : ℕ) (side clause : List AtomLit) → IsSide side
    → IsSameClause clause (guarded n side) → FactsAreFalse f clause
side_no_facts f n side clause is same = record {
  false_there = λ l c fact. ⊎_elim
      (λ (e : denied (Ask n) ≡ l). absurd (ask_no_fact f n
      (subst (λ (k : AtomLit). IsFact f k.atom) (sym e) fact)))
      (λ there. absurd (tells_no_fact f l.atom l.positive (is.tells l there) fact))
      (Contains-cons_cases (denied (Ask n)) side l (same.there l c));
}

pub side_spends : (f : Framework) (literals : List AtomLit) (set : List ℕ) (clause : List AtomLit)
    (old new : OracleLog) → IsLog f old → IsGuarded old → TakesSide literals set clause old new
    → Spends f old new 1 0
side_spends f literals set clause old new form guards takes =
    spends_by f (own_step clause (by_side (length old.sides + 1))) _ old new takes.gains
    (λ unit. record {
      fresh = new_same (working old.steps) clause (guarded (length old.sides + 1) literals) takes.same
          (side_is_new f old literals form guards takes.is_side);
      facts = side_no_facts f (length old.sides + 1) literals clause takes.is_side takes.same;
    }) 1 0 refl refl
