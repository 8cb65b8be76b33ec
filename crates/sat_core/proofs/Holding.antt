-- The steps in use, of which each is the propagator's or asleep.
use Rattle.std.proofs.Common.{◌≡◌, ℕ, ◌<◌, ◌≤◌, ◌+◌, ◌-◌, List, [], ◌∷◌, ◌++◌, length, get_or, remove, arith, ap, sym}
use Rattle.std.proofs.Common.{subst, ◌∙◌, refl, inl, inr, ⊎_elim, length-append}
use Rattle.std.specs.Prelude.{◌⊎◌, Contains}
use Rattle.std.proofs.Math.Seq.{get_or-append_seam}
use Rattle.std.proofs.lemmas.Bool.{cases_lt}
use Rattle.std.proofs.lemmas.List.{get_or_append_left, get_or_default}
use Rattle.std.proofs.lemmas.List.Edits.{length-remove, get_or-remove_below, get_or-remove_above}
use Rattle.std.proofs.lemmas.List.Elements.{Contains-push_cases, Contains-append_left, Contains-push, Contains-get_or}
use Rattle.lists.proofs.Membership.{Contains-nil}
use Rattle.plain_lits.specs.declared.lit.Lit.{Lit}
use Rattle.hinted_log.specs.Logs.{Step, LogState, IsLog, IsStepOf, step_at, derived_step, no_step}
use Rattle.hinted_log.specs.declared.step_kind.StepKind.TheVariants.{Derived}
use Rattle.unit_propagate.specs.Search.{Search}
use Rattle.sleeping_clauses.specs.declared.sleepers.Sleeper.{Sleeper}
use Rattle.sleeping_clauses.specs.declared.loading.Loaded.{Loaded}
use Rattle.sat_core.specs.Solving.{SolverState, IsSolver, clause_of}
use Rattle.sleeping_clauses.specs.Steps.{IsMirror}
use Rattle.sat_core.specs.Mirrors.{IsDerived, AreShared, IsHeld}
use Rattle.sat_core.specs.Runs.{GoesOn}
use Rattle.sleeping_clauses.specs.Sleeping.{IsSleeper, AreLoaded}
use Rattle.sat_core.proofs.Mirroring.{id_of, mirror_grown, rises_pushed, clause_kept, step_kept, clause_new, step_new}
use Rattle.sleeping_clauses.proofs.Mirroring.{mirror_pushed, mirror_none}
use Rattle.sat_core.proofs.Searching.{Recorded}

-- a step in use is one of the log
pub active_step : (clauses : List (List Lit)) (awake : List ℕ) (asleep : List Sleeper) (active : List ℕ)
    (steps : List Step) (number : ℕ) → AreShared clauses awake asleep active steps → Contains active number
    → IsStepOf steps number
active_step clauses awake asleep active steps number share c = ⊎_elim
    (λ (there : Contains awake number).
    let id = id_of clauses awake steps number share.mirror there in
    subst (IsStepOf steps) id.2 (share.mirror.named id.0 id.1))
    (λ w. subst (IsStepOf steps) w.same (share.sleepers w.sleeper w.there).step)
    (share.covered number c)

-- the clauses are the same
pub held_same : (old new : Search) (awake : List ℕ) (asleep : List Sleeper) (active : List ℕ) (steps : List Step)
    → new.clauses ≡ old.clauses → old.vars ≤ new.vars → IsHeld old awake asleep active steps
    → IsHeld new awake asleep active steps
held_same old new awake asleep active steps e more h = record {
  shared = subst (λ cs. AreShared cs awake asleep active steps) (sym e) h.shared;
  rises = h.rises;
  given = h.given;
  known = λ number l step c. let lt = h.known number l step c in omega (arith, lt, more);
}

pub held_equal : (old new : Search) (awake : List ℕ) (asleep : List Sleeper) (active : List ℕ) (steps : List Step)
    → new.clauses ≡ old.clauses → new.vars ≡ old.vars → IsHeld old awake asleep active steps
    → IsHeld new awake asleep active steps
held_equal old new awake asleep active steps e same h =
    held_same old new awake asleep active steps e (omega (arith, same)) h

pub held_on : (old new : Search) (awake : List ℕ) (asleep : List Sleeper) (active : List ℕ) (steps : List Step)
    → GoesOn old new → IsHeld old awake asleep active steps → IsHeld new awake asleep active steps
held_on old new awake asleep active steps on h =
    held_equal old new awake asleep active steps on.clauses on.vars h

-- the log has a step more
step_at_kept : (steps : List Step) (step : Step) (number : ℕ) → IsStepOf steps number
    → step_at (steps ++ step ∷ []) number ≡ step_at steps number
step_at_kept steps step number s =
    let from = s.from_one in
    let within = s.within in
    get_or_append_left steps (step ∷ []) no_step (number - 1) (omega arith)

step_at_new : (steps : List Step) (step : Step) (number : ℕ) → number ≡ length steps + 1
    → step_at (steps ++ step ∷ []) number ≡ step
step_at_new steps step number e =
    let i : number - 1 ≡ length steps = omega arith in
    ap (λ k. get_or (steps ++ step ∷ []) k no_step) i ∙ get_or-append_seam steps step [] no_step

step_cases : (steps : List Step) (step : Step) (number : ℕ) → IsStepOf (steps ++ step ∷ []) number
    → IsStepOf steps number ⊎ (number ≡ length steps + 1)
step_cases steps step number s =
    let from = s.from_one in
    let within = s.within in
    let long = length-append steps (step ∷ []) in
    ⊎_elim (λ lt. inl (record { from_one = from; within = omega arith }))
    (λ ge. inr (omega arith)) (cases_lt (number - 1) (length steps))

sleeper_kept : (steps : List Step) (step : Step) (x : Sleeper) → IsSleeper steps x → IsSleeper (steps ++ step ∷ []) x
sleeper_kept steps step x s = record {
  step = step_kept steps step x.step s.step;
  derived = ap (λ (y : Step). y.kind) (step_at_kept steps step x.step s.step) ∙ s.derived;
  key = subst (λ xs. Contains xs x.key) (sym (clause_kept steps step x.step s.step)) s.key;
}

share_grown : (clauses : List (List Lit)) (awake : List ℕ) (asleep : List Sleeper) (active : List ℕ)
    (steps : List Step) (step : Step) → AreShared clauses awake asleep active steps
    → AreShared clauses awake asleep active (steps ++ step ∷ [])
share_grown clauses awake asleep active steps step h = record {
  mirror = mirror_grown clauses awake steps step h.mirror;
  sleepers = λ x c. sleeper_kept steps step x (h.sleepers x c);
  awake_of = h.awake_of;
  asleep_of = h.asleep_of;
  covered = h.covered;
}

known_grown : (steps : List Step) (step : Step) (old new : ℕ) → old ≤ new
    → ((number : ℕ) (l : Lit) → IsStepOf steps number → Contains (clause_of steps number) l → l.var < old)
    → ((l : Lit) → Contains step.clause l → l.var < new)
    → (number : ℕ) (l : Lit) → IsStepOf (steps ++ step ∷ []) number
    → Contains (clause_of (steps ++ step ∷ []) number) l → l.var < new
known_grown steps step old new more known here number l s c = ⊎_elim
    (λ before.
    let lt = known number l before (subst (λ xs. Contains xs l) (clause_kept steps step number before) c) in
    omega (arith, lt, more))
    (λ e. here l (subst (λ xs. Contains xs l) (clause_new steps step number e) c))
    (step_cases steps step number s)

-- a derived step comes, which isn't in use
pub held_grown : (old new : Search) (awake : List ℕ) (asleep : List Sleeper) (active : List ℕ) (steps : List Step)
    (step : Step) → new.clauses ≡ old.clauses → old.vars ≤ new.vars → step.kind ≡ Derived
    → ((l : Lit) → Contains step.clause l → l.var < new.vars)
    → IsHeld old awake asleep active steps → IsHeld new awake asleep active (steps ++ step ∷ [])
held_grown old new awake asleep active steps step e more derived here h = record {
  shared = share_grown new.clauses awake asleep active steps step
      (subst (λ cs. AreShared cs awake asleep active steps) (sym e) h.shared);
  rises = h.rises;
  given = λ number s ne. ⊎_elim
      (λ before. h.given number before
      (λ is. ne (ap (λ (y : Step). y.kind) (step_at_kept steps step number before) ∙ is)))
      (λ last. absurd (ne (ap (λ (y : Step). y.kind) (step_at_new steps step number last) ∙ derived)))
      (step_cases steps step number s);
  known = known_grown steps step old.vars new.vars more h.known here;
}

-- a step comes with its clause, and is in use
pub held_more : (old new : Search) (awake : List ℕ) (asleep : List Sleeper) (active : List ℕ) (steps : List Step)
    (step : Step) → new.clauses ≡ old.clauses ++ step.clause ∷ [] → old.vars ≤ new.vars
    → ((l : Lit) → Contains step.clause l → l.var < new.vars) → IsHeld old awake asleep active steps
    → IsHeld new (awake ++ (length steps + 1) ∷ []) asleep (active ++ (length steps + 1) ∷ []) (steps ++ step ∷ [])
held_more old new awake asleep active steps step e more here h =
    let number = length steps + 1 in
    let share = share_grown old.clauses awake asleep active steps step h.shared in
    let pushed = mirror_pushed old.clauses awake (steps ++ step ∷ []) step.clause number share.mirror
    (step_new steps step number refl) (clause_new steps step number refl) in
    record {
      shared = record {
        mirror = subst (λ cs. IsMirror cs (awake ++ number ∷ []) (steps ++ step ∷ [])) (sym e) pushed;
        sleepers = share.sleepers;
        awake_of = λ n c. ⊎_elim
            (λ there. Contains-append_left active (number ∷ []) n (share.awake_of n there))
            (λ (last : number ≡ n). subst (Contains (active ++ number ∷ [])) last (Contains-push active number))
            (Contains-push_cases awake number n c);
        asleep_of = λ x c. Contains-append_left active (number ∷ []) x.step (share.asleep_of x c);
        covered = λ n c. ⊎_elim
            (λ there. ⊎_elim (λ a. inl (Contains-append_left awake (number ∷ []) n a)) (λ w. inr w)
            (share.covered n there))
            (λ (last : number ≡ n). inl (subst (Contains (awake ++ number ∷ [])) last (Contains-push awake number)))
            (Contains-push_cases active number n c);
      };
      rises = rises_pushed active number h.rises (λ k lt.
          let s = active_step old.clauses awake asleep active steps (get_or active k 0) h.shared
          (Contains-get_or active k 0 lt) in
          let within = s.within in
          omega (arith, within));
      given = λ n s ne. ⊎_elim
          (λ before. Contains-append_left active (number ∷ []) n (h.given n before
          (λ is. ne (ap (λ (y : Step). y.kind) (step_at_kept steps step n before) ∙ is))))
          (λ (last : n ≡ number). subst (Contains (active ++ number ∷ [])) (sym last) (Contains-push active number))
          (step_cases steps step n s);
      known = known_grown steps step old.vars new.vars more h.known here;
    }

-- the same, of the parts of a solver
pub held_derived : (old new : Search) (awake new_awake : List ℕ) (asleep new_asleep : List Sleeper)
    (active new_active : List ℕ) (log new_log : LogState) (clause : List Lit) (hints : List ℕ) (number : ℕ)
    → new.clauses ≡ old.clauses → old.vars ≤ new.vars → new_awake ≡ awake → new_asleep ≡ asleep → new_active ≡ active
    → ((l : Lit) → Contains clause l → l.var < new.vars) → IsDerived log new_log clause hints number
    → IsHeld old awake asleep active log.steps → IsHeld new new_awake new_asleep new_active new_log.steps
held_derived old new awake new_awake asleep new_asleep active new_active log new_log clause hints number e more e1 e2 e3
    here d h =
    subst (λ xs. IsHeld new xs new_asleep new_active new_log.steps) (sym e1)
    (subst (λ xs. IsHeld new awake xs new_active new_log.steps) (sym e2)
    (subst (λ xs. IsHeld new awake asleep xs new_log.steps) (sym e3)
    (subst (λ (g : LogState). IsHeld new awake asleep active g.steps) (sym d.log_is)
    (held_grown old new awake asleep active log.steps (derived_step clause hints) e more refl here h))))

pub held_learned : (old new : Search) (awake new_awake : List ℕ) (asleep new_asleep : List Sleeper)
    (active new_active : List ℕ) (log new_log : LogState) (clause : List Lit) (hints : List ℕ) (number : ℕ)
    → new.clauses ≡ old.clauses ++ clause ∷ [] → old.vars ≤ new.vars → new_awake ≡ awake ++ number ∷ []
    → new_asleep ≡ asleep → new_active ≡ active ++ number ∷ []
    → ((l : Lit) → Contains clause l → l.var < new.vars) → IsDerived log new_log clause hints number
    → IsHeld old awake asleep active log.steps → IsHeld new new_awake new_asleep new_active new_log.steps
held_learned old new awake new_awake asleep new_asleep active new_active log new_log clause hints number e more e1 e2 e3
    here d h =
    let next = length log.steps + 1 in
    subst (λ xs. IsHeld new xs new_asleep new_active new_log.steps) (sym (e1 ∙ ap (λ n. awake ++ n ∷ []) d.next))
    (subst (λ xs. IsHeld new (awake ++ next ∷ []) xs new_active new_log.steps) (sym e2)
    (subst (λ xs. IsHeld new (awake ++ next ∷ []) asleep xs new_log.steps)
    (sym (e3 ∙ ap (λ n. active ++ n ∷ []) d.next))
    (subst (λ (g : LogState). IsHeld new (awake ++ next ∷ []) asleep (active ++ next ∷ []) g.steps) (sym d.log_is)
    (held_more old new awake asleep active log.steps (derived_step clause hints) e more here h))))

pub held_recorded : (old new : Search) (awake new_awake : List ℕ) (asleep new_asleep : List Sleeper)
    (active new_active : List ℕ) (log new_log : LogState) (clause : List Lit) (number : ℕ)
    → Recorded log new_log clause number
    → new.clauses ≡ old.clauses ++ clause ∷ [] → old.vars ≤ new.vars → new_awake ≡ awake ++ number ∷ []
    → new_asleep ≡ asleep → new_active ≡ active ++ number ∷ []
    → ((l : Lit) → Contains clause l → l.var < new.vars)
    → IsHeld old awake asleep active log.steps → IsHeld new new_awake new_asleep new_active new_log.steps
held_recorded old new awake new_awake asleep new_asleep active new_active log new_log clause number r e more e1 e2 e3
    here h =
    let next = length log.steps + 1 in
    subst (λ xs. IsHeld new xs new_asleep new_active new_log.steps) (sym (e1 ∙ ap (λ n. awake ++ n ∷ []) r.next))
    (subst (λ xs. IsHeld new (awake ++ next ∷ []) xs new_active new_log.steps) (sym e2)
    (subst (λ xs. IsHeld new (awake ++ next ∷ []) asleep xs new_log.steps)
    (sym (e3 ∙ ap (λ n. active ++ n ∷ []) r.next))
    (subst (λ xs. IsHeld new (awake ++ next ∷ []) asleep (active ++ next ∷ []) xs) (sym r.steps)
    (held_more old new awake asleep active log.steps r.step (e ∙ ap (λ x. old.clauses ++ x ∷ []) (sym r.is)) more
    (λ l c. here l (subst (λ xs. Contains xs l) r.is c)) h))))

pub held_as : (old new : Search) (awake new_awake : List ℕ) (asleep new_asleep : List Sleeper)
    (active new_active : List ℕ) (log new_log : LogState)
    → new.clauses ≡ old.clauses → old.vars ≤ new.vars → new_awake ≡ awake → new_asleep ≡ asleep → new_active ≡ active
    → new_log ≡ log → IsHeld old awake asleep active log.steps
    → IsHeld new new_awake new_asleep new_active new_log.steps
held_as old new awake new_awake asleep new_asleep active new_active log new_log e more e1 e2 e3 e4 h =
    subst (λ xs. IsHeld new xs new_asleep new_active new_log.steps) (sym e1)
    (subst (λ xs. IsHeld new awake xs new_active new_log.steps) (sym e2)
    (subst (λ xs. IsHeld new awake asleep xs new_log.steps) (sym e3)
    (subst (λ (g : LogState). IsHeld new awake asleep active g.steps) (sym e4)
    (held_same old new awake asleep active log.steps e more h))))

-- a sleeper is woken
removed_or : (asleep : List Sleeper) (index : ℕ) (x : Sleeper) → index < length asleep → Contains asleep x
    → ((d : Sleeper) → get_or asleep index d ≡ x) ⊎ Contains (remove asleep index) x
removed_or asleep index x within c =
    let at_lt = c.1 in
    let long = length-remove asleep index within in
    ⊎_elim
    (λ (low : c.0 < index). inr (
      c.0,
      omega (arith, low, within, long),
      get_or-remove_below asleep index x c.0 low within ∙ c.2,
    ))
    (λ high. ⊎_elim
    (λ (above : index < c.0).
    let same : c.0 - 1 + 1 ≡ c.0 = omega arith in
    inr (
      c.0 - 1,
      omega (arith, at_lt, above, long),
      get_or-remove_above asleep index x (c.0 - 1) (omega (arith, above)) within
          ∙ (ap (λ k. get_or asleep k x) same ∙ c.2),
    ))
    (λ le.
    let e : index ≡ c.0 = omega (arith, high, le) in
    inl (λ d. ap (λ k. get_or asleep k d) e ∙ (get_or_default asleep c.0 d x at_lt ∙ c.2)))
    (cases_lt index c.0))
    (cases_lt c.0 index)

removed_from : (asleep : List Sleeper) (index : ℕ) (x : Sleeper) → index < length asleep
    → Contains (remove asleep index) x → Contains asleep x
removed_from asleep index x within c =
    let at_lt = c.1 in
    let long = length-remove asleep index within in
    ⊎_elim
    (λ (low : c.0 < index). (
      c.0,
      omega (arith, low, within),
      sym (get_or-remove_below asleep index x c.0 low within) ∙ c.2,
    ))
    (λ high. (
      c.0 + 1,
      omega (arith, at_lt, long),
      sym (get_or-remove_above asleep index x c.0 high within) ∙ c.2,
    ))
    (cases_lt c.0 index)

pub fewer_asleep : (asleep : List Sleeper) (index : ℕ) → index < length asleep
    → length (remove asleep index) < length asleep
fewer_asleep asleep index within = let long = length-remove asleep index within in omega (arith, long)

pub held_woken : (old new : Search) (awake new_awake : List ℕ) (asleep new_asleep : List Sleeper)
    (active : List ℕ) (steps : List Step) (clause : List Lit) (index : ℕ) (x : Sleeper)
    → index < length asleep → ((d : Sleeper) → get_or asleep index d ≡ x)
    → clause ≡ clause_of steps x.step → new.clauses ≡ old.clauses ++ clause ∷ [] → old.vars ≤ new.vars
    → new_awake ≡ awake ++ x.step ∷ [] → new_asleep ≡ remove asleep index
    → IsHeld old awake asleep active steps → IsHeld new new_awake new_asleep active steps
held_woken old new awake new_awake asleep new_asleep active steps clause index x within at is e more e1 e2 h =
    let share = h.shared in
    let there : Contains asleep x = (index, within, at x) in
    let s = share.sleepers x there in
    subst (λ xs. IsHeld new xs new_asleep active steps) (sym e1)
    (subst (λ xs. IsHeld new (awake ++ x.step ∷ []) xs active steps) (sym e2)
    (record {
      shared = record {
        mirror = subst (λ cs. IsMirror cs (awake ++ x.step ∷ []) steps) (sym e)
            (mirror_pushed old.clauses awake steps clause x.step share.mirror s.step (sym is));
        sleepers = λ y c. share.sleepers y (removed_from asleep index y within c);
        awake_of = λ n c. ⊎_elim
            (λ before. share.awake_of n before)
            (λ (last : x.step ≡ n). subst (Contains active) last (share.asleep_of x there))
            (Contains-push_cases awake x.step n c);
        asleep_of = λ y c. share.asleep_of y (removed_from asleep index y within c);
        covered = λ n c. ⊎_elim
            (λ a. inl (Contains-append_left awake (x.step ∷ []) n a))
            (λ w. ⊎_elim
            (λ (here : (d : Sleeper) → get_or asleep index d ≡ w.sleeper).
            let same : x.step ≡ n = ap (λ (y : Sleeper). y.step) (sym (at x) ∙ here x) ∙ w.same in
            inl (subst (Contains (awake ++ x.step ∷ [])) same (Contains-push awake x.step)))
            (λ other. inr (record { sleeper = w.sleeper; there = other; same = w.same }))
            (removed_or asleep index w.sleeper within w.there))
            (share.covered n c);
      };
      rises = h.rises;
      given = h.given;
      known = λ n l step c. let lt = h.known n l step c in omega (arith, lt, more);
    }))

pub held_none : (s : Search) (awake : List ℕ) (asleep : List Sleeper) (active : List ℕ) (steps : List Step)
    → s.clauses ≡ [] → awake ≡ [] → asleep ≡ [] → active ≡ [] → steps ≡ [] → IsHeld s awake asleep active steps
held_none s awake asleep active steps clauses e1 e2 e3 e4 =
    let none : (number : ℕ) → IsStepOf steps number → ⊥ = λ number step.
    let from = step.from_one in
    let within = step.within in
    let long = ap length e4 in
    omega (arith, from, within, long) in
    record {
      shared = record {
        mirror = mirror_none s.clauses awake steps clauses e1;
        sleepers = λ x c. absurd (Contains-nil x (subst (λ xs. Contains xs x) e2 c));
        awake_of = λ n c. absurd (Contains-nil n (subst (λ xs. Contains xs n) e1 c));
        asleep_of = λ x c. absurd (Contains-nil x (subst (λ xs. Contains xs x) e2 c));
        covered = λ n c. absurd (Contains-nil n (subst (λ xs. Contains xs n) e3 c));
      };
      rises = λ k lt. let long = ap length e3 in absurd (omega (arith, lt, long));
      given = λ n step ne. absurd (none n step);
      known = λ n l step c. absurd (none n step);
    }

pub held_loaded : (old : Search) (loaded : Loaded) (awake : List ℕ) (asleep : List Sleeper) (active : List ℕ)
    (steps : List Step) → old.vars ≤ loaded.search.vars → AreLoaded loaded asleep awake steps
    → IsHeld old awake asleep active steps
    → IsHeld loaded.search loaded.awake.items loaded.asleep.items active steps
held_loaded old loaded awake asleep active steps more g h = record {
  shared = record {
    mirror = g.mirror;
    sleepers = g.sleepers;
    awake_of = λ n c. h.shared.awake_of n (g.awake_of n c);
    asleep_of = λ x c. ⊎_elim (λ a. h.shared.asleep_of x a) (λ w. h.shared.awake_of x.step w) (g.asleep_of x c);
    covered = λ n c. ⊎_elim
        (λ a. g.covered n a)
        (λ w. inr (record { sleeper = w.sleeper; there = g.kept w.sleeper w.there; same = w.same }))
        (h.shared.covered n c);
  };
  rises = h.rises;
  given = h.given;
  known = λ n l step c. let lt = h.known n l step c in omega (arith, lt, more);
}

-- what callers see of it
pub solver_form : (s : SolverState) (search : Search) (awake : List ℕ) (asleep : List Sleeper) → IsLog s.log
    → IsHeld search awake asleep s.active s.log.steps → IsSolver s
solver_form s search awake asleep form h = record {
  log_form = form;
  rises = h.rises;
  named = λ number c. active_step search.clauses awake asleep s.active s.log.steps number h.shared c;
}
