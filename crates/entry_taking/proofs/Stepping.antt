-- What comes by an entry is one step of one's own.
use Rattle.std.proofs.Common.{◌≡◌, ⊎_elim, ℕ, zero, suc, ◌+◌, List, [], ◌∷◌, ◌++◌, length, map, take, ap, sym, subst, ◌∙◌, refl, arith, inl, inr}
use Rattle.std.specs.Prelude.{◌⊎◌, Contains, Bool, true, false, Option, Some, None, Result, Ok, Err, OnOk, OnErr, IsSome}
use Rattle.plain_lits.specs.HintCheck.{Checks, Propagates}
use Rattle.plain_lits.specs.declared.halt.Halt.{Halt}
use Rattle.semantics.specs.Frameworks.{Framework}
use Rattle.meaning_atoms.specs.declared.atom.AtomLit.{AtomLit}
use Rattle.meaning_atoms.specs.declared.axiom.AxiomName.{AxiomName}
use Rattle.meaning_atoms.specs.Literals.{negated}
use Rattle.meaning_atoms.specs.AxiomNames.{IsAxiomName}
use Rattle.oracle_face.specs.declared.entry.Entry.{Entry as AnEntry}
use Rattle.oracle_face.specs.declared.entry.EntryOrigin.TheVariants.{Hints}
use Rattle.oracle_face.specs.declared.entry.HintName.{HintName}
use Rattle.oracle_face.specs.Entries.{IsShareable}
use Rattle.oracle_face.specs.Kinds.{is_assumption_based}
use Rattle.oracle_face.specs.Logs.{LogStep, IsNumberOf, by_axiom, clauses_of, step_at}
use Rattle.session_log.specs.Imports.{FollowsByNames, IsShownHere, StandForSteps}
use Rattle.session_log.specs.OwnSteps.{IsCalledOn, IsNamedByGiven, IsWanted, OwnStep, learns_axiom, takes_entry}
use Rattle.atom_solver.specs.Imported.{Imports, IsImported}
use Rattle.atom_solver.specs.States.{AddsAxiom, AtomState}
use Rattle.atom_solver.proofs.EntryLemmas.{checks_same}
use Rattle.entry_taking.specs.declared.names.StepName.TheVariants.{Axiom as OfAxiom, Entry as EntryOf}
use Rattle.entry_taking.specs.declared.names.StepNames.{StepNames}
use Rattle.entry_taking.specs.Names.{IsFirstOf, told_of}
use Rattle.entry_taking.specs.Taking.{IsKnown, IsLooked, MayCome}
use Rattle.entry_taking.proofs.Joining.{of_kind, takes}

-- ---- an axiom

-- no step is an axiom that isn't told
axiom_absent : (names : StepNames) (steps : List LogStep) (name : AxiomName) → IsLooked names steps
    → told_of names (OfAxiom name) ≡ None → (number : ℕ) → IsNumberOf steps number
    → (step_at steps number).source ≡ by_axiom name → ⊥
axiom_absent names steps name looked none number named is =
    let all = looked.all in
    let high = named.within in
    subst (IsFirstOf steps names.seen (OfAxiom name)) none (looked.named.each (OfAxiom name)) number named.from_one
    (omega arith) is

-- the axiom comes as one step of one's own, or the log is the same
pub axiom_step : (r : Result (Unit {0}) Halt) (f : Framework) (own : ℕ) (given : List AnEntry) (kind : Bool)
    (name : AxiomName) (names : StepNames) (old new : AtomState) → is_assumption_based f ≡ kind → MayCome kind name
    → IsAxiomName name → IsNamedByGiven given name → IsLooked names old.log.steps
    → told_of names (OfAxiom name) ≡ None → OnOk r (AddsAxiom name old new) → OnErr r (new ≡ old)
    → (new.log ≡ old.log) ⊎ OwnStep f own given old.log new.log
axiom_step (Ok u) f own given kind name names old new same may is by looked none ok err =
    inr (learns_axiom name ok.clause (record {
      of_kind = of_kind f name (may.of_kind ∙ sym same) is;
      once = axiom_absent names old.log.steps name looked none;
      called = subst (λ b. IsWanted (IsCalledOn f given) old.log name b) (sym may.no_loop) (inr by);
      takes = ok.takes;
    }))
axiom_step (Err halt) f own given kind name names old new same may is by looked none ok err =
    inl (ap (λ (s : AtomState). s.log) err)

-- ---- an entry that follows

-- a clause that is taken by the first hints is taken at the same place where there are more
propagates_more : (steps : List (List AtomLit)) (truths : List AtomLit) (place count n : ℕ) (hints : List ℕ)
    → Propagates negated steps truths place (take count hints) (Ok n)
    → Propagates negated steps truths place hints (Ok n)
propagates_more steps truths place count n [] w = absurd (let e : Ok n ≡ Err place = none_left count w in cc)
  where
    none_left : (count : ℕ) → Propagates negated steps truths place (take count []) (Ok n) → Ok n ≡ Err place
    none_left zero w = w
    none_left (suc count) w = w
propagates_more steps truths place zero n (hint ∷ hints) w = absurd (let e : Ok n ≡ Err place = w in cc)
propagates_more steps truths place (suc count) n (hint ∷ hints) w =
    ⊎_elim (λ is. inl is)
    (λ rest. inr (⊎_elim
    (λ unit. inl (
      unit.0,
      unit.1,
      propagates_more steps (truths ++ unit.0 ∷ []) (place + 1) count n hints unit.2,
    ))
    (λ other. inr other) rest)) w

checks_more : (steps : List (List AtomLit)) (clause : List AtomLit) (count n : ℕ) (hints : List ℕ)
    → Checks negated steps clause (take count hints) (Ok n) → Checks negated steps clause hints (Ok n)
checks_more steps clause count n hints w =
    ⊎_elim (λ tautology. inl tautology)
    (λ plain. inr (plain.0, propagates_more steps (map negated clause) 1 count n hints plain.1)) w

module _ (own : ℕ) (entry : AnEntry) (names : List HintName) (origin : entry.origin ≡ Hints names) (hints : List ℕ)
    (told : StepNames) (old new : AtomState) (stand : StandForSteps own old.log.steps names hints)
    (may : IsShareable entry) (looked : IsLooked told old.log.steps) (unknown : IsKnown told own entry.name → ⊥) where
  absent : (number : ℕ) → IsNumberOf old.log.steps number → (step_at old.log.steps number).imported ≡ Some entry.name
      → ⊥
  absent number named is = go (told_of told (EntryOf entry.name.session entry.name.step)) refl
    where
      go : (found : Option ℕ) → told_of told (EntryOf entry.name.session entry.name.step) ≡ found → ⊥
      go None e =
          let all = looked.all in
          let high = named.within in
          subst (IsFirstOf old.log.steps told.seen (EntryOf entry.name.session entry.name.step)) e
          (looked.named.each (EntryOf entry.name.session entry.name.step)) number named.from_one (omega arith) is
      go (Some k) e = unknown (inr (subst (λ (o : Option ℕ). IsSome o) (sym e) refl))

  imported_step : (f : Framework) (given : List AnEntry) → Contains given entry
      → Imports entry.clause hints entry.name old new → OwnStep f own given old.log new.log
  imported_step f given there i =
      let used = length (take i.used hints) in
      let follows : FollowsByNames own old.log.steps entry.clause names = record {
        hints = hints;
        stand = stand;
        used = used;
        checks = checks_more (clauses_of old.log.steps) entry.clause i.used used hints
            (checks_same (clauses_of old.log.steps) i.clause entry.clause (take i.used hints) (Ok used) i.same i.checks);
      } in
      takes_entry entry (record { there = there; shareable = may })
      (record {
        room = i.gains.room;
        other = λ e. unknown (inl e);
        absent = absent;
        shown = subst (λ o. IsShownHere f own old.log.steps entry.clause o) (sym origin) follows;
      })
      (takes own entry names origin hints old new stand i)

  pub import_step : (taken : Bool) (f : Framework) (given : List AnEntry) → Contains given entry
      → IsImported entry.clause hints entry.name old new taken
      → (new.log ≡ old.log) ⊎ OwnStep f own given old.log new.log
  import_step true f given there i = inr (imported_step f given there i)
  import_step false f given there i = inl (ap (λ (s : AtomState). s.log) i.0)
