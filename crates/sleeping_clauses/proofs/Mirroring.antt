-- The clauses of a propagator that is built anew beside the steps of the log.
use Rattle.std.proofs.Common.{◌≡◌, ℕ, ◌<◌, ◌≤◌, ◌+◌, List, [], ◌∷◌, ◌++◌, length, get_or, arith, ap, sym, subst, ◌∙◌}
use Rattle.std.proofs.Common.{⊎_elim, ◌-◌, inl, inr, length-append}
use Rattle.std.specs.Prelude.{Contains, ◌⊎◌}
use Rattle.sleeping_clauses.specs.declared.sleepers.Sleeper.{Sleeper}
use Rattle.std.proofs.lemmas.List.Elements.{Contains-push_cases, Contains-append_left, Contains-push}
use Rattle.std.proofs.lemmas.Bool.{cases_lt}
use Rattle.lists.proofs.Membership.{Contains-nil}
use Rattle.plain_lits.specs.declared.lit.Lit.{Lit}
use Rattle.hinted_log.specs.Logs.{Step, IsStepOf}
use Rattle.sleeping_clauses.specs.Steps.{clause_of, step_of, IsMirror, HasRoom}
use Rattle.std.proofs.Math.Seq.{get_or-append_seam}
use Rattle.std.proofs.lemmas.List.{get_or_append_left}
use Rattle.plain_lits.specs.HintCheck.{clause_at, IsNamed}
use Rattle.unit_propagate.specs.Search.{Search, GainsClause}
use Rattle.sleeping_clauses.specs.declared.loading.Loaded.{Loaded}
use Rattle.sleeping_clauses.specs.Sleeping.{IsSleeper, AreSleepers, SleepsAs, IsAsleep, AreLoaded}

-- a clause more
named_before : {L : Type 0} (clauses : List (List L)) (clause : List L) (id : ℕ) → IsNamed (clauses ++ clause ∷ []) id
    → IsNamed clauses id ⊎ (id ≡ length clauses + 1)
named_before clauses clause id named =
    let from = named.from_one in
    let within = named.within in
    let long = length-append clauses (clause ∷ []) in
    ⊎_elim (λ lt. inl (record { from_one = from; within = omega arith }))
    (λ ge. inr (omega arith)) (cases_lt (id - 1) (length clauses))

pub clause_before : {L : Type 0} (clauses : List (List L)) (clause : List L) (id : ℕ) → IsNamed clauses id
    → clause_at (clauses ++ clause ∷ []) id ≡ clause_at clauses id
clause_before clauses clause id named =
    let from = named.from_one in
    let within = named.within in
    get_or_append_left clauses (clause ∷ []) [] (id - 1) (omega arith)

pub clause_last : {L : Type 0} (clauses : List (List L)) (clause : List L) (id : ℕ) → id ≡ length clauses + 1
    → clause_at (clauses ++ clause ∷ []) id ≡ clause
clause_last clauses clause id e =
    let i : id - 1 ≡ length clauses = omega arith in
    ap (λ k. get_or (clauses ++ clause ∷ []) k []) i ∙ get_or-append_seam clauses clause [] []

pub clause_cases : {L : Type 0} (clauses : List (List L)) (clause : List L) (id : ℕ)
    → IsNamed (clauses ++ clause ∷ []) id
    → (IsNamed clauses id × (clause_at (clauses ++ clause ∷ []) id ≡ clause_at clauses id))
    ⊎ ((id ≡ length clauses + 1) × (clause_at (clauses ++ clause ∷ []) id ≡ clause))
clause_cases clauses clause id named =
    ⊎_elim (λ old. inl (old, clause_before clauses clause id old))
    (λ e. inr (e, clause_last clauses clause id e)) (named_before clauses clause id named)

pub room_more : (old new : Search) (clause : List Lit) → new.clauses ≡ old.clauses ++ clause ∷ [] → old.vars ≤ new.vars
    → ((l : Lit) → Contains clause l → l.var < new.vars) → HasRoom old → HasRoom new
room_more old new clause e vars known room = record {
  known = λ id l named c.
      let c2 : Contains (clause_at (old.clauses ++ clause ∷ []) id) l = subst (λ cs. Contains (clause_at cs id) l)
      e c in
      ⊎_elim
      (λ w. let lt = room.known id l w.0 (subst (λ xs. Contains xs l) w.1 c2) in omega arith)
      (λ w. known l (subst (λ xs. Contains xs l) w.1 c2))
      (clause_cases old.clauses clause id (subst (λ cs. IsNamed cs id) e named));
}

-- a step of the log comes with its clause
pub mirror_pushed : (clauses : List (List Lit)) (active : List ℕ) (steps : List Step) (clause : List Lit) (number : ℕ)
    → IsMirror clauses active steps → IsStepOf steps number → clause_of steps number ≡ clause
    → IsMirror (clauses ++ clause ∷ []) (active ++ number ∷ []) steps
mirror_pushed clauses active steps clause number m step is =
    let long = m.long in
    let old_at : (id : ℕ) → IsNamed clauses id → step_of (active ++ number ∷ []) id ≡ step_of active id = λ id n.
    let from = n.from_one in let within = n.within in
    get_or_append_left active (number ∷ []) 0 (id - 1) (omega arith) in
    let new_at : (id : ℕ) → id ≡ length clauses + 1 → step_of (active ++ number ∷ []) id ≡ number = λ id e.
    let i : id - 1 ≡ length active = omega arith in
    ap (λ k. get_or (active ++ number ∷ []) k 0) i ∙ get_or-append_seam active number [] 0 in
    record {
      long = omega (arith, length-append active (number ∷ []), length-append clauses (clause ∷ []), long);
      named = λ id n. ⊎_elim
          (λ w. subst (IsStepOf steps) (sym (old_at id w.0)) (m.named id w.0))
          (λ w. subst (IsStepOf steps) (sym (new_at id w.0)) step)
          (clause_cases clauses clause id n);
      same = λ id n. ⊎_elim
          (λ w. ap (clause_of steps) (old_at id w.0) ∙ (m.same id w.0 ∙ sym w.1))
          (λ w. ap (clause_of steps) (new_at id w.0) ∙ (is ∙ sym w.1))
          (clause_cases clauses clause id n);
    }

-- nothing is there yet
none_named : {L : Type 0} (clauses : List (List L)) (id : ℕ) → clauses ≡ [] → IsNamed clauses id → ⊥
none_named clauses id e n =
    let from = n.from_one in
    let within = n.within in
    let long = ap length e in
    omega (arith, from, within, long)

pub mirror_none : (clauses : List (List Lit)) (awake : List ℕ) (steps : List Step) → clauses ≡ [] → awake ≡ []
    → IsMirror clauses awake steps
mirror_none clauses awake steps e e1 = record {
  long = ap length e1 ∙ sym (ap length e);
  named = λ id n. absurd (none_named clauses id e n);
  same = λ id n. absurd (none_named clauses id e n);
}

pub room_none : (s : Search) → s.clauses ≡ [] → HasRoom s
room_none s e = record { known = λ id l n c. absurd (none_named s.clauses id e n) }

pub loaded_none : (loaded : Loaded) (asleep : List Sleeper) (steps : List Step) → loaded.search.clauses ≡ []
    → loaded.search.lits ≡ [] → loaded.search.starts ≡ [] → loaded.awake.items ≡ [] → loaded.asleep.items ≡ asleep
    → AreSleepers steps asleep → AreLoaded loaded asleep [] steps
loaded_none loaded asleep steps clauses lits starts awake same sleepers = record {
  mirror = mirror_none loaded.search.clauses loaded.awake.items steps clauses awake;
  sleepers = λ x c. sleepers x (subst (λ xs. Contains xs x) same c);
  awake_of = λ n c. subst (λ xs. Contains xs n) awake c;
  asleep_of = λ x c. inl (subst (λ xs. Contains xs x) same c);
  kept = λ x c. subst (λ xs. Contains xs x) (sym same) c;
  covered = λ n c. absurd (Contains-nil n c);
  none = lits;
  starts = starts;
  room = room_none loaded.search clauses;
}

-- a propagator is loaded
pub loaded_awake : (old new : Loaded) (asleep : List Sleeper) (done : List ℕ) (steps : List Step) (number : ℕ)
    (clause : List Lit) (id : ℕ) → IsStepOf steps number → clause ≡ clause_of steps number
    → GainsClause old.search new.search clause id → new.awake.items ≡ old.awake.items ++ number ∷ []
    → new.asleep.items ≡ old.asleep.items → AreLoaded old asleep done steps
    → AreLoaded new asleep (done ++ number ∷ []) steps
loaded_awake old new asleep done steps number clause id step is g e1 e2 h = record {
  mirror = subst (λ xs. IsMirror new.search.clauses xs steps) (sym e1)
      (subst (λ cs. IsMirror cs (old.awake.items ++ number ∷ []) steps) (sym g.clauses)
      (mirror_pushed old.search.clauses old.awake.items steps clause number h.mirror step (sym is)));
  sleepers = λ x c. h.sleepers x (subst (λ xs. Contains xs x) e2 c);
  awake_of = λ n c. ⊎_elim
      (λ there. Contains-append_left done (number ∷ []) n (h.awake_of n there))
      (λ (last : number ≡ n). subst (Contains (done ++ number ∷ [])) last (Contains-push done number))
      (Contains-push_cases old.awake.items number n (subst (λ xs. Contains xs n) e1 c));
  asleep_of = λ x c. ⊎_elim (λ a. inl a) (λ d. inr (Contains-append_left done (number ∷ []) x.step d))
      (h.asleep_of x (subst (λ xs. Contains xs x) e2 c));
  kept = λ x c. subst (λ xs. Contains xs x) (sym e2) (h.kept x c);
  covered = λ n c. ⊎_elim
      (λ there. ⊎_elim
      (λ a. inl (subst (λ xs. Contains xs n) (sym e1) (Contains-append_left old.awake.items (number ∷ []) n a)))
      (λ w. inr (subst (λ xs. IsAsleep xs n) (sym e2) w))
      (h.covered n there))
      (λ (last : number ≡ n). inl (subst (λ xs. Contains xs n) (sym e1)
      (subst (Contains (old.awake.items ++ number ∷ [])) last (Contains-push old.awake.items number))))
      (Contains-push_cases done number n c);
  none = g.assigned.lits ∙ h.none;
  starts = g.assigned.starts ∙ h.starts;
  room = room_more old.search new.search clause g.clauses g.assigned.vars g.known h.room;
}

pub loaded_asleep : (old new : Loaded) (asleep : List Sleeper) (done : List ℕ) (steps : List Step) (number : ℕ)
    (x : Sleeper) → SleepsAs steps number x → new.search ≡ old.search → new.awake.items ≡ old.awake.items
    → new.asleep.items ≡ old.asleep.items ++ x ∷ [] → AreLoaded old asleep done steps
    → AreLoaded new asleep (done ++ number ∷ []) steps
loaded_asleep old new asleep done steps number x s e e1 e2 h = record {
  mirror = subst (λ (q : Search). IsMirror q.clauses new.awake.items steps) (sym e)
      (subst (λ xs. IsMirror old.search.clauses xs steps) (sym e1) h.mirror);
  sleepers = λ y c. ⊎_elim (λ there. h.sleepers y there)
      (λ (last : x ≡ y). subst (IsSleeper steps) last s.is)
      (Contains-push_cases old.asleep.items x y (subst (λ xs. Contains xs y) e2 c));
  awake_of = λ n c. Contains-append_left done (number ∷ []) n (h.awake_of n (subst (λ xs. Contains xs n) e1 c));
  asleep_of = λ y c. ⊎_elim
      (λ there. ⊎_elim (λ a. inl a) (λ d. inr (Contains-append_left done (number ∷ []) y.step d))
      (h.asleep_of y there))
      (λ (last : x ≡ y). inr (subst (λ (z : Sleeper). Contains (done ++ number ∷ []) z.step) last
      (subst (Contains (done ++ number ∷ [])) (sym s.same) (Contains-push done number))))
      (Contains-push_cases old.asleep.items x y (subst (λ xs. Contains xs y) e2 c));
  kept = λ y c. subst (λ xs. Contains xs y) (sym e2) (Contains-append_left old.asleep.items (x ∷ []) y (h.kept y c));
  covered = λ n c. ⊎_elim
      (λ there. ⊎_elim
      (λ a. inl (subst (λ xs. Contains xs n) (sym e1) a))
      (λ w. inr (record {
        sleeper = w.sleeper;
        there = subst (λ xs. Contains xs w.sleeper) (sym e2)
            (Contains-append_left old.asleep.items (x ∷ []) w.sleeper w.there);
        same = w.same;
      }))
      (h.covered n there))
      (λ (last : number ≡ n). inr (record {
        sleeper = x;
        there = subst (λ xs. Contains xs x) (sym e2) (Contains-push old.asleep.items x);
        same = s.same ∙ last;
      }))
      (Contains-push_cases done number n c);
  none = ap (λ (q : Search). q.lits) e ∙ h.none;
  starts = ap (λ (q : Search). q.starts) e ∙ h.starts;
  room = subst HasRoom (sym e) h.room;
}
