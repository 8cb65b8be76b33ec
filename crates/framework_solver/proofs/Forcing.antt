-- The axioms that a framework needs come into the log, and stay in it.
use Rattle.std.proofs.Common.{◌≡◌, ◌∙◌, inl, inr, ⊎_elim, ℕ, ◌+◌, ◌<◌, ◌≤◌, suc, Bool, true, false, not}
use Rattle.std.proofs.Common.{true≢false, List, [], ◌∷◌, ◌++◌, length, refl, sym, ap, subst, arith, None, Some}
use Rattle.std.specs.Prelude.{◌≢◌, ◌-◌, AllPairs, Contains, cond, drop, filter, count_by, slice_index_or}
use Rattle.std.proofs.lemmas.Bool.{cases_lt}
use Rattle.lists.proofs.Counts.{count_by-cons}
use Rattle.std.proofs.lemmas.List.{drop_all, get_or-append-add, get_or_append_left, get_or_default, length-append}
use Rattle.std.proofs.lemmas.List.{map-append}
use Rattle.std.proofs.Math.Seq.{drop-cons}
use Rattle.std.proofs.lemmas.List.Elements.{Contains-get_or, Contains-append_left, Contains-append_right, filter-append}
use Rattle.lists.proofs.Filters.{Contains-filter}
use Rattle.lists.proofs.Membership.{Contains-head, Contains-nil, Contains-cons_cases}
use Rattle.plain_lits.specs.declared.halt.Halt.{Halt}
use Rattle.plain_lits.specs.declared.halt.Halt.TheVariants.{Spent, LogFull, Memory}
use Rattle.plain_lits.specs.Units.{Units}
use Rattle.plain_lits.proofs.HintCheckLemmas.{Contains-mapped}
use Rattle.semantics.specs.Frameworks.{Framework}
use Rattle.meaning_atoms.specs.declared.atom.AtomLit.{AtomLit}
use Rattle.meaning_atoms.specs.declared.axiom.AxiomName.{AxiomName}
use Rattle.semantics.specs.Frameworks.{IsNumbered}
use Rattle.certificate_claims.specs.Refutations.{IsAxiomOf, axiom_clause}
use Rattle.oracle_face.specs.Needed.{IsNeeded}
use Rattle.edit_rules.specs.Kinds.{framework_of}
use Rattle.oracle_face.specs.Logs.{OracleLog, LogStep, SideClause, Source, by_axiom, clauses_of, is_unit, no_step}
use Rattle.oracle_face.specs.Logs.{step_at, working, units_of, closings_of}
use Rattle.oracle_face.specs.Logs.{IsGiven, IsLog, IsSameClause}
use Rattle.oracle_face.specs.Growing.{Making, NoSide, Grows, HasRun}
use Rattle.oracle_face.proofs.GrowingLemmas.{grows_same, run_joined, run_none}
use Rattle.session_log.specs.Steps.{own_step}
use Rattle.session_log.proofs.Staying.{axiom_stays}
use Rattle.atom_solver.specs.States.{AtomState, AddsAxiom, IsGuardedLog}
use Rattle.framework_solver.specs.declared.solver.FrameworkSolver.{FrameworkSolver}
use Rattle.entry_taking.proofs.Naming.{named_grown}
use Rattle.entry_taking.specs.declared.names.StepNames.{StepNames}
use Rattle.entry_taking.specs.Names.{AreNamed}
use Rattle.entry_taking.specs.Once.{ComesOnce, HasAxiomStep, HasNoStepOf}
use Rattle.framework_solver.specs.Solvers.{HasAxiom, AreInForce, AreUsedOrWait, IsWhole}
use Rattle.framework_solver.specs.Stepping.{AreListed}
use Rattle.framework_solver.specs.Updating.{AddsNeeded, GainsNeeded, TakesNeeded}
use Rattle.framework_solver.proofs.KindLemmas.{needed_axiom, no_loop}

-- ---- what searches use

abbrev is_kept : LogStep → Bool
is_kept step = not step.closing

working_more : (old more : List LogStep) → working (old ++ more) ≡ working old ++ working more
working_more old more =
    ap clauses_of (filter-append is_kept old more)
    ∙ map-append (λ (s : LogStep). s.clause) (filter is_kept old) (filter is_kept more)

-- what is used once stays in use
pub working_grown : (P : Making) (old new : OracleLog) (clause : List AtomLit) → Grows P old new
    → Contains (working old.steps) clause → Contains (working new.steps) clause
working_grown P old new clause grows there =
    let more = grows.more_steps in
    subst (λ steps. Contains (working steps) clause) (sym more.1)
    (subst (λ clauses. Contains clauses clause) (sym (working_more old.steps more.0))
    (Contains-append_left (working old.steps) (working more.0) clause there))

pub axiom_grown : (P : Making) (old new : OracleLog) (name : AxiomName) → Grows P old new → HasAxiom old name
    → HasAxiom new name
axiom_grown P old new name grows has =
    record { clause = has.clause; there = working_grown P old new has.clause grows has.there; same = has.same }

pub force_grown : (P : Making) (f : Framework) (old new : OracleLog) → Grows P old new → AreInForce f old
    → AreInForce f new
force_grown P f old new grows all = λ name needed. axiom_grown P old new name grows (all name needed)

waits_grown : (P : Making) (f : Framework) (old new : OracleLog) (names : List AxiomName) (taken : ℕ) → Grows P old new
    → AreUsedOrWait f old names taken → AreUsedOrWait f new names taken
waits_grown P f old new names taken grows all = λ name needed. ⊎_elim
    (λ has. inl (axiom_grown P old new name grows has)) (λ waits. inr waits) (all name needed)

-- the parts of an engine whose solver has gone on
pub whole_with : (P : Making) (p : FrameworkSolver) (s : AtomState) → IsWhole p
    → IsGuardedLog (framework_of p.framework)
    s.log
    → Grows P p.solver.log s.log → IsWhole (record p { solver = s })
whole_with P p s whole guarded grows = record {
  numbered = whole.numbered;
  members_are = whole.members_are;
  guarded = guarded;
  axioms = whole.axioms;
  taken_few = whole.taken_few;
  named = named_grown P p.names p.solver.log s.log grows whole.named;
  waits = λ is_listed.
      waits_grown P (framework_of p.framework) p.solver.log s.log p.needed p.taken grows (whole.waits is_listed);
}

-- the same where names of more steps are known
pub whole_named : (p : FrameworkSolver) (s : AtomState) (names : StepNames) → IsWhole p
    → IsGuardedLog (framework_of p.framework) s.log → Grows NoSide p.solver.log s.log → AreNamed names s.log.steps
    → IsWhole (record p { solver = s; names = names })
whole_named p s names whole guarded grows named = record {
  numbered = whole.numbered;
  members_are = whole.members_are;
  guarded = guarded;
  axioms = whole.axioms;
  taken_few = whole.taken_few;
  named = named;
  waits = λ is_listed.
      waits_grown NoSide (framework_of p.framework) p.solver.log s.log p.needed p.taken grows (whole.waits is_listed);
}

-- the same where no axiom waits and the list is gone
pub whole_forgotten : (p : FrameworkSolver) → IsWhole p → AreInForce (framework_of p.framework) p.solver.log
    → IsWhole (record p { needed = []; taken = 0 })
whole_forgotten p whole all = record {
  numbered = whole.numbered;
  members_are = whole.members_are;
  guarded = whole.guarded;
  axioms = λ name c. absurd (Contains-nil name c);
  taken_few = omega arith;
  named = whole.named;
  waits = λ is_listed name needed. inl (all name needed);
}

-- ---- one axiom more

axiom_is : (a b : AxiomName) → by_axiom a ≡ by_axiom b → a ≡ b
axiom_is a b e = cc

one_there : (old : List LogStep) (step : LogStep) (k : ℕ) → length old ≤ k → k < length (old ++ step ∷ [])
    → slice_index_or (old ++ step ∷ []) k no_step ≡ step
one_there old step k low high =
    let here : k ≡ length old + 0 = omega (arith, length-append old (step ∷ [])) in
    ap (λ i. slice_index_or (old ++ step ∷ []) i no_step) here ∙ get_or-append-add old (step ∷ []) 0 no_step

one_more : (p : LogStep → Bool) (old : List LogStep) (step : LogStep) → p step ≡ false
    → count_by p (old ++ step ∷ []) ≡ count_by p old
one_more p [] step fails = count_by-cons p step [] ∙ ap (λ b. cond b 1 0 + 0) fails
one_more p (s ∷ more) step fails =
    count_by-cons p s (more ++ step ∷ [])
    ∙ ap (λ n. cond (p s) 1 0 + n) (one_more p more step fails) ∙ sym (count_by-cons p s more)

module _ (f : Framework) (name : AxiomName) (old new : AtomState) (numbered : IsNumbered f) (needed : IsNeeded f name)
    (guarded : IsGuardedLog f old.log) (adds : AddsAxiom name old new) where
  abbrev step : LogStep
  step = own_step adds.clause (by_axiom name)

  steps_are : new.log.steps ≡ old.log.steps ++ step ∷ []
  steps_are = adds.takes.gains.steps

  axiom_grows : Grows NoSide old.log new.log
  axiom_grows = (axiom_stays f name adds.clause old.log new.log guarded.form guarded.guards
      (needed_axiom f numbered name needed)
      adds.takes).grows

  no_unit : (k : ℕ) → length old.log.steps ≤ k → k < length new.log.steps
      → is_unit (slice_index_or new.log.steps k no_step) ≡ true → ⊥
  no_unit k low high unit =
      let there : slice_index_or new.log.steps k no_step ≡ step =
      ap (λ steps. slice_index_or steps k no_step) steps_are
      ∙ one_there old.log.steps step k low (subst (λ steps. k < length steps) steps_are high) in
      true≢false (sym unit ∙ (ap is_unit there ∙ no_loop f name adds.clause needed))

  -- an axiom takes no unit, and doesn't only end a search
  pub axiom_run : (units : Units) → HasRun NoSide 0 f old.log new.log new.pending units units None
  axiom_run units =
      let same_units : units_of new.log ≡ units_of old.log =
      ap (λ steps. count_by is_unit steps) steps_are
      ∙ one_more is_unit old.log.steps step (no_loop f name adds.clause needed) in
      let same_closings : closings_of new.log ≡ closings_of old.log =
      ap (λ steps. count_by (λ (s : LogStep). s.closing) steps) steps_are
      ∙ one_more (λ (s : LogStep). s.closing) old.log.steps step refl in
      record {
        grows = axiom_grows;
        limit = refl;
        works = record {
          fresh = λ k low high unit. absurd (no_unit k low high unit);
          facts = λ k low high unit. absurd (no_unit k low high unit);
          counted = omega (arith, same_units);
        };
        closing = omega (arith, same_closings);
        stop = tt;
      }

  -- and is used then
  pub axiom_used : HasAxiom new.log name
  axiom_used = record {
    clause = adds.clause;
    there =
        subst (λ steps. Contains (working steps) adds.clause) (sym steps_are)
        (subst (λ clauses. Contains clauses adds.clause) (sym (working_more old.log.steps (step ∷ [])))
        (Contains-append_right (working old.log.steps) (adds.clause ∷ []) adds.clause
        (Contains-head adds.clause [] adds.clause refl)));
    same = adds.takes.same;
  }

-- ---- an axiom that is there

given_same : (f : Framework) (sides : List SideClause) (before : List LogStep) (clause : List AtomLit)
    (source : Source) (name : AxiomName) → source ≡ by_axiom name → IsGiven f sides before clause source
    → IsSameClause clause (axiom_clause name)
given_same f sides before clause source name is given =
    (subst (IsGiven f sides before clause) is given).1

-- searches use it
pub step_used : (f : Framework) (name : AxiomName) (log : OracleLog) → IsLog f log → HasAxiomStep log name
    → HasAxiom log name
step_used f name log form at =
    let low = at.named.from_one in
    let high = at.named.within in
    let lt : at.number - 1 < length log.steps = omega arith in
    let step = step_at log.steps at.number in
    record {
      clause = step.clause;
      there = Contains-mapped (λ (s : LogStep). s.clause) (filter is_kept log.steps) step
          ((Contains-filter is_kept log.steps step).1 (
            Contains-get_or log.steps (at.number - 1) no_step lt,
            ap not at.kept,
          ));
      same = given_same f log.sides _ step.clause step.source name at.source (form.each (at.number - 1) lt);
    }

-- ---- axioms come one after the other

pub gains_none : (f : Framework) (log : OracleLog) → GainsNeeded f log log
gains_none f log = record { names = []; adds = refl }

adds_more : (f : Framework) (names : List AxiomName) (name : AxiomName) (a b c : OracleLog) → AddsNeeded f names a b
    → TakesNeeded f name b c → AddsNeeded f (names ++ name ∷ []) a c
adds_more f [] name a b c adds takes = (c, subst (λ log. TakesNeeded f name log c) adds takes, refl)
adds_more f (x ∷ names) name a b c adds takes = (adds.0, adds.1, adds_more f names name adds.0 b c adds.2 takes)

gains_more : (f : Framework) (name : AxiomName) (a b c : OracleLog) → GainsNeeded f a b → TakesNeeded f name b c
    → GainsNeeded f a c
gains_more f name a b c gains takes =
    record { names = gains.names ++ name ∷ []; adds = adds_more f gains.names name a b c gains.adds takes }

-- ---- the loop over the axioms that wait

pub waiting_there : (p : FrameworkSolver) (names : List AxiomName) (d : AxiomName) → names ≡ p.needed
    → p.taken < length p.needed → Contains p.needed (slice_index_or names p.taken d)
waiting_there p names d are lt =
    subst (λ list. Contains p.needed (slice_index_or list p.taken d)) (sym are)
    (Contains-get_or p.needed p.taken d lt)

pub waiting_is : (p : FrameworkSolver) (names : List AxiomName) (d : AxiomName) → names ≡ p.needed
    → slice_index_or names p.taken d ≡ slice_index_or p.needed p.taken d
waiting_is p names d are = ap (λ list. slice_index_or list p.taken d) are

drop_one : {X : Type 0} (xs : List X) (i : ℕ) (x d : X) → i < length xs → x ≡ slice_index_or xs i d
    → drop i xs ≡ x ∷ drop (i + 1) xs
drop_one xs i x d lt is =
    let next : suc i ≡ i + 1 = omega arith in
    drop-cons xs i d lt ∙ ap (λ y. y ∷ drop (suc i) xs) (sym is) ∙ ap (λ n. x ∷ drop n xs) next

-- how far the loop over the axioms has come
pub record HasTaken (first now : FrameworkSolver) : Type 0 where
  pub whole : IsWhole now
  pub is_listed : now.is_listed ≡ true
  pub framework : now.framework ≡ first.framework
  pub run : (units : Units) → HasRun NoSide 0 (framework_of first.framework) first.solver.log now.solver.log
      now.solver.pending units units None
  pub gains : GainsNeeded (framework_of first.framework) first.solver.log now.solver.log
  pub pending : now.solver.pending ≡ first.solver.pending

pub taken_none : (p : FrameworkSolver) → IsWhole p → p.is_listed ≡ true → HasTaken p p
taken_none p whole is_listed = record {
  whole = whole;
  is_listed = is_listed;
  framework = refl;
  run = λ units. run_none NoSide 0 (framework_of p.framework) p.solver.log p.solver.pending units;
  gains = gains_none (framework_of p.framework) p.solver.log;
  pending = refl;
}

-- one axiom fewer waits, which searches use
taken_on : (first now : FrameworkSolver) (s : AtomState) (names : StepNames) (name d : AxiomName) → HasTaken first now
    → now.taken < length now.needed → name ≡ slice_index_or now.needed now.taken d
    → IsGuardedLog (framework_of now.framework) s.log → Grows NoSide now.solver.log s.log → HasAxiom s.log name
    → AreNamed names s.log.steps
    → ((units : Units) → HasRun NoSide 0 (framework_of now.framework) now.solver.log s.log s.pending units units None)
    → GainsNeeded (framework_of first.framework) first.solver.log s.log
    → s.pending ≡ now.solver.pending → HasTaken first (record now { solver = s; names = names; taken = now.taken + 1 })
taken_on first now s names name d has lt is guarded grows used named run gains pending =
    let whole = has.whole in
    record {
      whole = record {
        numbered = whole.numbered;
        members_are = whole.members_are;
        guarded = guarded;
        axioms = whole.axioms;
        taken_few = omega arith;
        named = named;
        waits = λ is_listed. λ other needed. ⊎_elim
            (λ has_it. inl (axiom_grown NoSide now.solver.log s.log other grows has_it))
            (λ waits. ⊎_elim
            (λ same_name. inl (subst (λ n. HasAxiom s.log n) same_name used))
            (λ behind. inr behind)
            (Contains-cons_cases name (drop (now.taken + 1) now.needed) other
            (subst (λ names. Contains names other) (drop_one now.needed now.taken name d lt is) waits)))
            (whole.waits is_listed other needed);
      };
      is_listed = has.is_listed;
      framework = has.framework;
      run = λ units. run_joined NoSide NoSide NoSide 0 0 0 (framework_of first.framework) first.solver.log
          now.solver.log
          s.log now.solver.pending s.pending units units units None (λ literals set h. h) (λ literals set h. h)
          (omega arith)
          (has.run units)
          (subst (λ g. HasRun NoSide 0 g now.solver.log s.log s.pending units units None)
          (ap framework_of has.framework)
          (run units));
      gains = gains;
      pending = pending ∙ has.pending;
    }

-- the parts after the first axiom that waits, where it came and no step was it
taken_came : (first now : FrameworkSolver) (s : AtomState) (names : StepNames) (name d : AxiomName) → HasTaken first now
    → now.taken < length now.needed → name ≡ slice_index_or now.needed now.taken d → IsNeeded
    (framework_of now.framework) name
    → IsGuardedLog (framework_of now.framework) s.log → HasNoStepOf now.solver.log.steps name
    → AddsAxiom name now.solver s → AreNamed names s.log.steps
    → HasTaken first (record now { solver = s; names = names; taken = now.taken + 1 })
taken_came first now s names name d has lt is known guarded none adds named =
    let f = framework_of now.framework in
    let old = now.solver in
    let whole = has.whole in
    taken_on first now s names name d has lt is guarded (axiom_grows f name old s whole.numbered known whole.guarded
    adds)
    (axiom_used f name old s whole.numbered known whole.guarded adds) named
    (axiom_run f name old s whole.numbered known whole.guarded adds)
    (gains_more (framework_of first.framework) name first.solver.log old.log s.log has.gains (record {
      needed = subst (λ g. IsNeeded g name) (ap framework_of has.framework) known;
      once = none;
      clause = adds.clause;
      takes = adds.takes;
    })) adds.pending_same

-- the same where it came, or a step was it already
pub taken_more : (first now : FrameworkSolver) (s : AtomState) (names : StepNames) (name d : AxiomName)
    → HasTaken first now → now.taken < length now.needed → name ≡ slice_index_or now.needed now.taken d
    → Contains now.needed name → ComesOnce name now.solver s → AreNamed names s.log.steps
    → ((f : Framework) → IsAxiomOf f name → IsGuardedLog f now.solver.log → IsGuardedLog f s.log)
    → HasTaken first (record now { solver = s; names = names; taken = now.taken + 1 })
taken_more first now s names name d has lt is there comes named stays =
    let f = framework_of now.framework in
    let old = now.solver in
    let whole = has.whole in
    let known = whole.axioms name there in
    let guarded = stays f (needed_axiom f whole.numbered name known) whole.guarded in
    ⊎_elim
    (λ had.
    let same = sym had.1 in
    taken_on first now s names name d has lt is guarded
    (subst (λ (t : AtomState). Grows NoSide old.log t.log) same (grows_same NoSide old.log))
    (subst (λ (t : AtomState). HasAxiom t.log name) same (step_used f name old.log whole.guarded.form had.0)) named
    (λ units. subst (λ (t : AtomState). HasRun NoSide 0 f old.log t.log t.pending units units None) same
    (run_none NoSide 0 f old.log old.pending units))
    (subst (λ (t : AtomState). GainsNeeded (framework_of first.framework) first.solver.log t.log) same has.gains)
    (ap (λ (t : AtomState). t.pending) had.1))
    (λ came. taken_came first now s names name d has lt is known guarded came.0 came.1 named)
    comes

-- ---- the loop that looks at no names

-- each axiom among the steps is one of those that were taken, and none is listed twice
pub record HasListed (first now : FrameworkSolver) : Type 0 where
  pub taken : HasTaken first now
  pub once : AllPairs (λ x y. x ≢ y) now.needed
  pub listed : AreListed now.solver.log.steps now.needed now.taken

pub listed_none : (p : FrameworkSolver) → IsWhole p → p.is_listed ≡ true → AllPairs (λ x y. x ≢ y) p.needed
    → length p.solver.log.steps ≡ 0 → HasListed p p
listed_none p whole is_listed once empty = record {
  taken = taken_none p whole is_listed;
  once = once;
  listed = record {
    each = λ number name named source.
        let low = named.from_one in
        let high = named.within in
        absurd (omega (arith, empty));
  };
}

-- so the next one that is listed is no step yet
next_is_new : (first now : FrameworkSolver) (name d : AxiomName) → HasListed first now → now.taken < length now.needed
    → name ≡ slice_index_or now.needed now.taken d → HasNoStepOf now.solver.log.steps name
next_is_new first now name d has lt is number named source =
    let at = has.listed.each number name named source in
    has.once at.0 now.taken d at.1 lt
    (get_or_default now.needed at.0 d name at.2 ∙ (at.3 ∙ is))

-- a step more, which is the next one
listed_more : (old : List LogStep) (step : LogStep) (names : List AxiomName) (count : ℕ) (name d : AxiomName)
    → AreListed old names count → step.source ≡ by_axiom name → count < length names
    → name ≡ slice_index_or names count d → AreListed (old ++ step ∷ []) names (count + 1)
listed_more old step names count name d listed source lt is = record {
  each = λ number other named other_source.
      let low = named.from_one in
      let high = named.within in
      let many : length (old ++ step ∷ []) ≡ length old + 1 = length-append old (step ∷ []) in
      ⊎_elim
      (λ (early : number - 1 < length old).
      let same : step_at (old ++ step ∷ []) number ≡ step_at old number =
      get_or_append_left old (step ∷ []) no_step (number - 1) early in
      let at = listed.each number other (record { from_one = low; within = omega arith })
      (ap (λ (s : LogStep). s.source) (sym same) ∙ other_source) in
      (at.0, omega (arith, at.1), at.2, at.3))
      (λ (late : length old ≤ number - 1).
      let here : step_at (old ++ step ∷ []) number ≡ step = one_there old step (number - 1) late (omega arith) in
      let same_name : name ≡ other =
      axiom_is name other (sym source ∙ (ap (λ (s : LogStep). s.source) (sym here) ∙ other_source)) in
      (count, omega arith, lt, get_or_default names count other d lt ∙ (sym is ∙ same_name)))
      (cases_lt (number - 1) (length old));
}

pub listed_plain : (first now : FrameworkSolver) (s : AtomState) (name d : AxiomName) → HasListed first now
    → now.taken < length now.needed → name ≡ slice_index_or now.needed now.taken d → Contains now.needed name
    → AddsAxiom name now.solver s
    → ((f : Framework) → IsAxiomOf f name → IsGuardedLog f now.solver.log → IsGuardedLog f s.log)
    → HasListed first (record now { solver = s; taken = now.taken + 1 })
listed_plain first now s name d has lt is there adds stays =
    let f = framework_of now.framework in
    let whole = has.taken.whole in
    let known = whole.axioms name there in
    let guarded = stays f (needed_axiom f whole.numbered name known) whole.guarded in
    let grows = axiom_grows f name now.solver s whole.numbered known whole.guarded adds in
    record {
      taken = taken_came first now s now.names name d has.taken lt is known guarded
          (next_is_new first now name d has lt is)
          adds (named_grown NoSide now.names now.solver.log s.log grows whole.named);
      once = has.once;
      listed = subst (λ (steps : List LogStep). AreListed steps now.needed (now.taken + 1)) (sym adds.takes.gains.steps)
          (listed_more now.solver.log.steps (own_step adds.clause (by_axiom name)) now.needed now.taken name d
          has.listed
          refl lt is);
    }

-- a halt before an axiom came
pub taken_halted : (first now : FrameworkSolver) (s : AtomState) (halt : Halt) → HasTaken first now
    → s ≡ now.solver → (halt ≡ LogFull → length now.solver.log.steps ≡ now.solver.log.limit)
    → ((count : ℕ) → halt ≡ Spent count → ⊥) → (units : Units)
    → HasRun NoSide 0 (framework_of first.framework) first.solver.log s.log s.pending units units (Some halt)
taken_halted first now s halt has is full unspent units =
    let f = framework_of first.framework in
    let P : AtomState → Type 0 = λ t. HasRun NoSide 0 f first.solver.log t.log t.pending units units (Some halt) in
    subst P (sym is) (go halt full unspent)
  where
    go : (halt : Halt) → (halt ≡ LogFull → length now.solver.log.steps ≡ now.solver.log.limit)
        → ((count : ℕ) → halt ≡ Spent count → ⊥)
        → HasRun NoSide 0 (framework_of first.framework) first.solver.log now.solver.log now.solver.pending units units
        (Some halt)
    go Memory full unspent =
        let h = has.run units in
        record { grows = h.grows; limit = refl; works = tt; closing = tt; stop = tt }
    go LogFull full unspent =
        let h = has.run units in
        record { grows = h.grows; limit = refl; works = h.works; closing = h.closing; stop = full refl }
    go (Spent count) full unspent = absurd (unspent count refl)

-- the parts and the gains then
pub whole_halted : (p : FrameworkSolver) (s : AtomState) (names : StepNames) → IsWhole p → s ≡ p.solver
    → AreNamed names s.log.steps → IsWhole (record p { solver = s; names = names })
whole_halted p s names whole same named =
    whole_named p s names whole
    (subst (λ (t : AtomState). IsGuardedLog (framework_of p.framework) t.log) (sym same) whole.guarded)
    (subst (λ (t : AtomState). Grows NoSide p.solver.log t.log) (sym same) (grows_same NoSide p.solver.log)) named

pub gains_halted : (first now : FrameworkSolver) (s : AtomState) → HasTaken first now → s ≡ now.solver
    → GainsNeeded (framework_of first.framework) first.solver.log s.log
gains_halted first now s has same =
    subst (λ (t : AtomState). GainsNeeded (framework_of first.framework) first.solver.log t.log) (sym same)
    has.gains

-- no axiom waits
pub all_in_force : (p : FrameworkSolver) → IsWhole p → p.is_listed ≡ true → length p.needed ≤ p.taken
    → AreInForce (framework_of p.framework) p.solver.log
all_in_force p whole is_listed all = λ name needed. ⊎_elim (λ used. used)
    (λ waits. absurd (Contains-nil name (subst (λ names. Contains names name) (drop_all p.taken p.needed all) waits)))
    (whole.waits is_listed name needed)

pub taken_all : (first now : FrameworkSolver) → HasTaken first now → length now.needed ≤ now.taken
    → AreInForce (framework_of now.framework) now.solver.log
taken_all first now has all = all_in_force now has.whole has.is_listed all
