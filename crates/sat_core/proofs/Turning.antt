-- One turn of a search: a clause is learned, or the search ends.
use Rattle.std.proofs.Common.{◌≡◌, ℕ, ◌<◌, ◌≤◌, ◌+◌, List, [], ◌∷◌, ◌++◌, length, take, map, arith, ap, sym, subst, ◌∙◌}
use Rattle.std.proofs.Common.{refl, inl, inr, ⊎_elim, Ok, length-take}
use Rattle.std.specs.Prelude.{Contains}
use Rattle.plain_lits.specs.declared.lit.Lit.{Lit}
use Rattle.plain_lits.specs.Literals.{negation}
use Rattle.plain_lits.specs.HintCheck.{IsNamed, IsFalsified, IsUnit, IsTautology, Checks}
use Rattle.hinted_log.specs.Logs.{Step, LogState, IsStepOf, clauses_of, derived_step}
use Rattle.unit_propagate.specs.Search.{Search, IsSearch, GoesBack, Learns}
use Rattle.conflict_learn.specs.Learning.{IsLearned, IsNew, IsOpen, IsAssumed}
use Rattle.sat_core.specs.Solving.{SolverState, clause_of, IsShown, IsUnitOf, EndsCore, with_unit}
use Rattle.sleeping_clauses.specs.Steps.{IsMirror, step_of}
use Rattle.sat_core.specs.Mirrors.{AreIds, IsDerived, IsSubsuming, HasNoSubsuming, AreShared}
use Rattle.sat_core.specs.Runs.{IsRun}
use Rattle.sleeping_clauses.specs.Sleeping.{HasNoSubsumingSleeper}
use Rattle.sleeping_clauses.specs.declared.sleepers.Sleeper.{Sleeper}
use Rattle.sat_core.specs.Turns.{IsAsserting}
use Rattle.sat_core.proofs.Running.{back, learned, back_lits, lits_below, core_lits, not_assumed}
use Rattle.std.proofs.lemmas.List.{length-map}
use Rattle.sat_core.proofs.Mirroring.{hints_named, unit_of, shown_of, clause_new, step_new, moved}

-- the level to which a search goes back lies below the last one
pub target_within : (s : Search) (level target : ℕ) → level < length s.starts → 2 < length s.starts
    → ((n : ℕ) → 2 < n → level < n → target < n) → target < length s.starts
target_within s level target lt deep within = within (length s.starts) deep lt

-- there the clause is unit
pub unit_after : (old new : Search) (level target : ℕ) (clause : List Lit) (lit : Lit)
    → IsAsserting old level clause lit
    → level ≤ target → target < length old.starts → GoesBack old new target → IsUnit negation new.lits clause lit
unit_after old new level target clause lit a le lt g =
    subst (λ xs. IsUnit negation xs clause lit) (sym (back_lits old new target g lt)) (a.unit.each target le lt)

pub run_after : (front : List Lit) (old new : Search) (target : ℕ) (assumptions : List Lit) → IsSearch old → 1 < target
    → target < length old.starts → GoesBack old new target → IsRun front assumptions old → IsRun front assumptions new
run_after front old new target assumptions form pos lt g run = back front old new target assumptions form pos lt g run

-- and with it the search goes on
pub run_learned : (front : List Lit) (old mid new : Search) (level target : ℕ) (clause : List Lit) (lit : Lit) (id : ℕ)
    (assumptions : List Lit)
    → IsSearch old → IsSearch mid → IsAsserting old level clause lit → 1 < target
    → ((n : ℕ) → 1 < n → n < target → n < level) → target < length old.starts → GoesBack old mid target
    → Learns mid new clause lit id → IsRun front assumptions old → IsRun front assumptions new
run_learned front old mid new level target clause lit id assumptions form mid_form a pos low lt g l run =
    let vars = g.vars in
    let long : length mid.starts ≡ target = ap length g.starts
    ∙ (let e : length (take target old.starts) ≡ target = omega (arith, length-take target old.starts) in e) in
    learned front mid new clause lit id assumptions mid_form l
    (λ x c. let known = a.known x c in omega (arith, vars, known))
    (λ k k_pos k_lt.
    let k_target : k < target = omega (arith, long, k_lt) in
    subst (λ xs. IsOpen xs clause) (sym (lits_below old mid target k form g lt k_target))
    (a.least.each k (low k k_pos k_target)))
    (back front old mid target assumptions form pos lt g run)

pub state_learned : (s : SolverState) (log : LogState) (active : List ℕ) (clause : List Lit) (hints : List ℕ)
    (number : ℕ)
    → IsDerived s.log log clause hints number → active ≡ s.active ++ number ∷ []
    → record { log = log; active = active; pending = s.pending } ≡ with_unit s clause hints
state_learned s log active clause hints number d e =
    let ns : active ≡ s.active ++ (length s.log.steps + 1) ∷ [] = e ∙ ap (λ n. s.active ++ n ∷ []) d.next in
    rw (d.log_is, ns) refl

-- ids of clauses have steps
pub ids_of : (clauses : List (List Lit)) (active : List ℕ) (steps : List Step) (clause : List Lit) (hints ids : List ℕ)
    → IsMirror clauses active steps → Checks negation clauses clause hints (Ok (length hints)) → ids ≡ hints
    → AreIds active ids
ids_of clauses active steps clause hints ids m w e =
    let long = m.long in
    record {
      from_one = λ id c. (hints_named clauses clause hints id w (subst (λ xs. Contains xs id) e c)).from_one;
      within = λ id c. let within = (hints_named clauses clause hints id w (subst (λ xs. Contains xs id) e c)).within in
          omega (arith, within, long);
    }

pub named_of : (clauses : List (List Lit)) (clause : List Lit) (hints ids : List ℕ)
    → Checks negation clauses clause hints (Ok (length hints)) → ids ≡ hints → (id : ℕ) → Contains ids id
    → IsNamed clauses id
named_of clauses clause hints ids w e id c = hints_named clauses clause hints id w (subst (λ xs. Contains xs id) e c)

-- a clause of false literals has known variables
pub known_of : (s : Search) (clause : List Lit) → IsSearch s → IsFalsified negation s.lits clause
    → (l : Lit) → Contains clause l → l.var < s.vars
known_of s clause form f l c = form.within (negation l) (f.each l c)

-- what is learned is a unit of the solver
pub unit_learned : (state : SolverState) (awake : List ℕ) (asleep : List Sleeper) (front : List Lit) (s : Search)
    (assumptions clause : List Lit) (ids hints : List ℕ)
    → AreShared s.clauses awake asleep state.active state.log.steps → IsSearch s → IsRun front assumptions s
    → IsLearned s.clauses s.lits clause ids → IsNew s.clauses clause
    → HasNoSubsumingSleeper state.log.steps asleep clause → hints ≡ map (step_of awake) ids
    → IsUnitOf state assumptions clause hints
unit_learned state awake asleep front s assumptions clause ids hints share form run l new none e =
    subst (IsUnitOf state assumptions clause) (sym e)
    (unit_of state s.clauses awake asleep s.lits assumptions clause ids share l new none
    (λ x c a. not_assumed front s assumptions clause x form run l.all_false c a))

-- a core, where a step serves and where it is one step more
taken_plain : (clauses : List (List Lit)) (clause : List Lit) (hints : List ℕ) (n : ℕ)
    → Checks negation clauses clause hints (Ok n) → IsTautology negation clause → ⊥
taken_plain clauses clause hints n w t = ⊎_elim (λ f. let e = f.1 in cc) (λ f. f.0 t) w

pub plain_of : (s : Search) (clause : List Lit) (hints : List ℕ) → IsLearned s.clauses s.lits clause hints
    → IsTautology negation clause → ⊥
plain_of s clause hints l t = taken_plain s.clauses clause hints (length hints) l.taken t

pub core_served : (state : SolverState) (front : List Lit) (s : Search) (assumptions clause : List Lit) (number : ℕ)
    → length s.starts ≤ 2 → IsRun front assumptions s → ((x : Lit) → Contains clause x → IsAssumed s x)
    → IsSubsuming state.log.steps clause number → EndsCore state state assumptions number
core_served state front s assumptions clause number shallow run assumed subsuming = record {
  core = record {
    step = subsuming.step;
    negated = λ l c. core_lits front s assumptions l shallow run (assumed l (subsuming.held.each l c));
  };
  closed = inl refl;
}

pub core_shown : (state : SolverState) (awake : List ℕ) (asleep : List Sleeper) (s : Search) (clause : List Lit)
    (ids hints : List ℕ)
    → AreShared s.clauses awake asleep state.active state.log.steps → IsLearned s.clauses s.lits clause ids
    → hints ≡ map (step_of awake) ids → IsShown state clause hints
core_shown state awake asleep s clause ids hints share l e =
    subst (IsShown state clause) (sym e)
    (shown_of state s.clauses awake asleep clause ids share l.taken l.used l.from_hints)

pub core_derived : (state : SolverState) (awake : List ℕ) (asleep : List Sleeper) (log : LogState) (front : List Lit)
    (s : Search) (assumptions clause : List Lit) (ids hints : List ℕ) (number : ℕ)
    → AreShared s.clauses awake asleep state.active state.log.steps → length s.starts ≤ 2 → IsRun front assumptions s
    → IsLearned s.clauses s.lits clause ids → ((x : Lit) → Contains clause x → IsAssumed s x)
    → HasNoSubsuming state.log.steps clause → hints ≡ map (step_of awake) ids
    → IsDerived state.log log clause hints number
    → EndsCore state (record { log = log; active = state.active; pending = state.pending }) assumptions number
core_derived state awake asleep log front s assumptions clause ids hints number share shallow run l assumed none e d =
    let steps_are : log.steps ≡ state.log.steps ++ derived_step clause hints ∷ [] =
    ap (λ (g : LogState). g.steps) d.log_is in
    let clause_is : clause_of log.steps number ≡ clause = ap (λ xs. clause_of xs number) steps_are
    ∙ clause_new state.log.steps (derived_step clause hints) number d.next in
    record {
      core = record {
        step = subst (λ xs. IsStepOf xs number) (sym steps_are)
            (step_new state.log.steps (derived_step clause hints) number d.next);
        negated = λ x c. core_lits front s assumptions x shallow run
            (assumed x (subst (λ xs. Contains xs x) clause_is c));
      };
      closed = inr (record {
        clause = clause;
        hints = hints;
        shown = core_shown state awake asleep s clause ids hints share l e;
        holds_none = none;
        next = d.next;
        log_is = d.log_is;
        active_same = refl;
        pending_same = refl;
      });
    }

-- the check moves to hints that are steps
pub moved_to : (clauses : List (List Lit)) (active : List ℕ) (steps : List Step) (clause : List Lit)
    (ids hints : List ℕ) → IsMirror clauses active steps → Checks negation clauses clause ids (Ok (length ids))
    → hints ≡ map (step_of active) ids → Checks negation (clauses_of steps) clause hints (Ok (length hints))
moved_to clauses active steps clause ids hints m w e =
    subst (λ hs. Checks negation (clauses_of steps) clause hs (Ok (length hs))) (sym e)
    (subst (λ n. Checks negation (clauses_of steps) clause (map (step_of active) ids) (Ok n))
    (sym (length-map ids (step_of active))) (moved clauses active steps clause ids m w))
