-- A clause that is given comes, and is in use.
use Rattle.std.proofs.Common.{◌≡◌, ℕ, suc, ◌+◌, ◌<◌, ◌≤◌, List, [], ◌∷◌, ◌++◌, length, get_or, ap, sym, subst, ◌∙◌}
use Rattle.std.proofs.Common.{refl, arith, ⊎_elim, add-one}
use Rattle.std.specs.Prelude.{Contains, Result, Ok, Err, IfOk, OnOk, OnErr, Option, None, slice_index_or, true, false}
use Rattle.std.proofs.lemmas.Bool.{cases_lt}
use Rattle.std.proofs.lemmas.List.{length_push, get_or_past, get_or_push, get_or_append_left}
use Rattle.std.proofs.lemmas.List.Elements.{Contains-append_left, Contains-push, Contains-push_cases}
use Rattle.plain_lits.specs.declared.lit.Lit.{Lit}
use Rattle.plain_lits.specs.Literals.{IsClauseOf}
use Rattle.plain_lits.specs.Checking.{HasRoomFor}
use Rattle.hinted_log.specs.Logs.{Step, LogState, clauses_of, no_step, given_step}
use Rattle.lists.specs.declared.memory.Memory.{Memory}
use Rattle.plain_lits.specs.declared.halt.Halt.{Halt}
use Rattle.hinted_log.specs.declared.fault.LogFault.{LogFault}
use Rattle.hinted_log.specs.declared.fault.LogFault.TheVariants.{LogFull}
use Rattle.semantics.specs.Frameworks.{Framework}
use Rattle.meaning_atoms.specs.declared.axiom.AxiomName.{AxiomName}
use Rattle.certificate_claims.specs.Refutations.{IsAxiomOf}
use Rattle.session_log.proofs.Staying.{axiom_stays}
use Rattle.atom_solver.specs.States.{AtomState, AddsAxiom, IsGuardedLog}
use Rattle.hinted_log.specs.declared.step_kind.StepKind.TheVariants as kind
use Rattle.sat_core.specs.declared.answer.Added.{Added}
use Rattle.sat_core.specs.declared.answer.Added.TheVariants.{Axiom, Side, Derived}
use Rattle.sat_core.specs.Solving.{SolverState, AddsTo, IsRejected}
use Rattle.meaning_atoms.specs.declared.atom.Atom.{Atom}
use Rattle.meaning_atoms.specs.declared.atom.AtomLit.{AtomLit}
use Rattle.oracle_face.specs.declared.face.Pending.{Pending}
use Rattle.oracle_face.specs.Logs.{SideClause}
use Rattle.session_log.specs.Steps.{GainsStep, own_step}
use Rattle.oracle_face.specs.declared.step_source.StepSource.{StepSource}
use Rattle.oracle_face.specs.declared.step_source.StepSource.TheVariants.{Axiom as OfAxiom, Hints}
use Rattle.atom_solver.specs.Inner.{GainsGiven, IsFilled, NeedsNoHints}
use Rattle.atom_solver.specs.Lifted.{IsLifting, lit_of, atoms_of, in_use, lifted_step}
use Rattle.oracle_face.specs.StepSources.{source_of, imported_of}
use Rattle.atom_solver.specs.Lifted.{lifted_at, listed, log_over, state_over}
use Rattle.atom_solver.specs.Tables.{AddsLits, StandsFor}
use Rattle.atom_solver.proofs.Lifting.{in_use_gives, in_use_yes, in_use_same}
use Rattle.atom_solver.proofs.Listing.{length-listed, listed_same}
use Rattle.lists.proofs.Images.{image_there, image_from}

-- a solver with one step more, which is in use
pub record Gains (old new : SolverState) (step : Step) : Type 0 where
  pub steps : new.log.steps ≡ old.log.steps ++ step ∷ []
  pub limit : new.log.limit ≡ old.log.limit
  pub active : new.active ≡ old.active ++ (length old.log.steps + 1) ∷ []

-- the step of a clause that comes without hints
abbrev pub step_given : List Lit → Added → Step
step_given clause Axiom = given_step clause kind.Axiom
step_given clause Side = given_step clause kind.Side
step_given clause (Derived hints) = given_step clause kind.Derived

pub gains_of : (old new : SolverState) (clause : List Lit) (how : Added) (number : ℕ) → NeedsNoHints how
    → AddsTo old new clause how number → Gains old new (step_given clause how)
gains_of old new clause Axiom number needs h = record {
  steps = ap (λ (g : LogState). g.steps) h.recorded.new_log;
  limit = ap (λ (g : LogState). g.limit) h.recorded.new_log;
  active = h.in_use ∙ ap (λ n. old.active ++ n ∷ []) h.recorded.next;
}
gains_of old new clause Side number needs h = record {
  steps = ap (λ (g : LogState). g.steps) h.recorded.new_log;
  limit = ap (λ (g : LogState). g.limit) h.recorded.new_log;
  active = h.in_use ∙ ap (λ n. old.active ++ n ∷ []) h.recorded.next;
}
gains_of old new clause (Derived hints) number needs h = absurd needs

-- such a step as it is stood for, where it isn't taken from an entry
pub given_is : (atoms : List Atom) (clause : List Lit) (how : Added) (origin : StepSource) → imported_of origin ≡ None
    → lifted_step atoms (step_given clause how) origin true ≡ own_step (atoms_of atoms clause) (source_of origin [])
given_is atoms clause Axiom origin own = ap (λ name. record {
  clause = atoms_of atoms clause;
  source = source_of origin [];
  imported = name;
  closing = false;
}) own
given_is atoms clause Side origin own = ap (λ name. record {
  clause = atoms_of atoms clause;
  source = source_of origin [];
  imported = name;
  closing = false;
}) own
given_is atoms clause (Derived hints) origin own = ap (λ name. record {
  clause = atoms_of atoms clause;
  source = source_of origin [];
  imported = name;
  closing = false;
}) own

pub step_given_clause : (clause : List Lit) (how : Added) → (step_given clause how).clause ≡ clause
step_given_clause clause Axiom = refl
step_given_clause clause Side = refl
step_given_clause clause (Derived hints) = refl

pub not_rejected : (log : LogState) (clause : List Lit) (how : Added) (place : ℕ) → NeedsNoHints how
    → IsRejected log clause how place → ⊥
not_rejected log clause Axiom place needs h = h
not_rejected log clause Side place needs h = h
not_rejected log clause (Derived hints) place needs h = needs

module _ (atoms : List Atom) (old new : SolverState) (step : Step) (g : Gains old new step)
    (origins filled pushed : List StepSource) (origin : StepSource) (same : IsFilled origins filled (length old.log.steps))
    (long : length filled ≡ length old.log.steps) (is : pushed ≡ filled ++ origin ∷ []) where
  step_old : (k : ℕ) → k < length old.log.steps → get_or new.log.steps k no_step ≡ get_or old.log.steps k no_step
  step_old k lt = ap (λ xs. get_or xs k no_step) g.steps
      ∙ get_or_append_left old.log.steps (step ∷ []) no_step k lt

  lifted_old : (k : ℕ) → k < length old.log.steps → lifted_at atoms new pushed k ≡ lifted_at atoms old origins k
  lifted_old k lt =
      let origin_old : get_or pushed k Hints ≡ get_or origins k Hints =
      ap (λ xs. get_or xs k Hints) is
      ∙ (get_or_append_left filled (origin ∷ []) Hints k (omega arith) ∙ same.same k) in
      let used : in_use new.active (k + 1) ≡ in_use old.active (k + 1) =
      in_use_same new.active old.active (k + 1)
      (λ c. ⊎_elim (λ there. there) (λ (last : length old.log.steps + 1 ≡ k + 1). absurd (omega arith))
      (Contains-push_cases old.active (length old.log.steps + 1) (k + 1)
      (subst (λ xs. Contains xs (k + 1)) g.active c)))
      (λ c. subst (λ xs. Contains xs (k + 1)) (sym g.active)
      (Contains-append_left old.active ((length old.log.steps + 1) ∷ []) (k + 1) c)) in
      ap (λ x. lifted_step atoms x (slice_index_or pushed k Hints) (in_use new.active (k + 1))) (step_old k lt)
      ∙ (ap (λ o. lifted_step atoms (get_or old.log.steps k no_step) o (in_use new.active (k + 1))) origin_old
      ∙ ap (λ b. lifted_step atoms (get_or old.log.steps k no_step) (slice_index_or origins k Hints) b) used)

  lifted_last : lifted_at atoms new pushed (length old.log.steps) ≡ lifted_step atoms step origin true
  lifted_last =
      let n = length old.log.steps in
      let here : get_or new.log.steps n no_step ≡ step =
      ap (λ xs. get_or xs n no_step) g.steps
      ∙ get_or_push old.log.steps (step) no_step n refl in
      let origin_new : get_or pushed n Hints ≡ origin =
      ap (λ xs. get_or xs n Hints) is ∙ get_or_push filled origin Hints n long in
      let used : in_use new.active (n + 1) ≡ true =
      in_use_yes new.active (n + 1) (subst (λ xs. Contains xs (n + 1)) (sym g.active)
      (Contains-push old.active (n + 1))) in
      ap (λ x. lifted_step atoms x (slice_index_or pushed n Hints) (in_use new.active (n + 1))) here
      ∙ (ap (λ o. lifted_step atoms step o (in_use new.active (n + 1))) origin_new
      ∙ ap (λ b. lifted_step atoms step origin b) used)

  pub step_gains : (sides : List SideClause) → length old.log.steps < old.log.limit
      → GainsStep (lifted_step atoms step origin true) sides (log_over atoms old origins sides)
      (log_over atoms new pushed sides)
  step_gains sides room =
      let n = length old.log.steps in
      let count : length new.log.steps ≡ suc n =
      ap length g.steps ∙ (length_push old.log.steps step ∙ add-one n) in
      record {
        room = omega (arith, length-listed (lifted_at atoms old origins) n);
        limit = g.limit;
        steps = ap (listed (lifted_at atoms new pushed)) count
            ∙ (ap (λ xs. xs ++ lifted_at atoms new pushed n ∷ [])
            (listed_same (lifted_at atoms new pushed) (lifted_at atoms old origins) n lifted_old)
            ∙ ap (λ x. listed (lifted_at atoms old origins) n ++ x ∷ []) lifted_last);
        sides_now = refl;
      }

  -- an axiom that had an origin is still in use, and the step that came is
  axiom_used : IsLifting atoms old origins → (k : ℕ) (name : AxiomName)
      → slice_index_or pushed k Hints ≡ OfAxiom name → in_use new.active (k + 1) ≡ true
  axiom_used h k name said =
      ⊎_elim
      (λ (early : k < length filled).
      let before : slice_index_or origins k Hints ≡ OfAxiom name =
      sym (same.same k)
      ∙ (sym (get_or_append_left filled (origin ∷ []) Hints k early)
      ∙ (sym (ap (λ xs. get_or xs k Hints) is) ∙ said)) in
      in_use_yes new.active (k + 1)
      (subst (λ xs. Contains xs (k + 1)) (sym g.active)
      (Contains-append_left old.active ((length old.log.steps + 1) ∷ []) (k + 1)
      (in_use_gives old.active (k + 1) (h.used k name before)))))
      (λ (late : length filled ≤ k).
      ⊎_elim
      (λ (here : k < length filled + 1).
      let last : length old.log.steps ≡ k = omega arith in
      subst (λ n. in_use new.active (n + 1) ≡ true) last
      (in_use_yes new.active (length old.log.steps + 1)
      (subst (λ xs. Contains xs (length old.log.steps + 1)) (sym g.active)
      (Contains-push old.active (length old.log.steps + 1)))))
      (λ (past : length filled + 1 ≤ k).
      let none : Hints ≡ OfAxiom name =
      sym (get_or_past pushed k Hints (omega (arith, ap length is, length_push filled origin))) ∙ said in
      absurd (cc))
      (cases_lt k (length filled + 1)))
      (cases_lt k (length filled))

  pub step_whole : HasRoomFor (length atoms) step.clause → IsLifting atoms old origins → IsLifting atoms new pushed
  step_whole room h = record {
    room = λ c there l c_l.
        let w = image_from (λ (x : Step). x.clause) new.log.steps c there in
        ⊎_elim
        (λ early. h.room c (subst (λ xs. Contains (clauses_of old.log.steps) xs) w.2
        (image_there (λ (x : Step). x.clause) old.log.steps w.0 early)) l c_l)
        (λ (last : step ≡ w.0). room l
        (subst (λ xs. Contains xs l) (sym (ap (λ (x : Step). x.clause) last ∙ w.2)) c_l))
        (Contains-push_cases old.log.steps (step) w.0
        (subst (λ xs. Contains xs w.0) g.steps w.1));
    marked = omega (
      arith,
      ap length g.steps,
      length_push old.log.steps (step),
      ap length is,
      length_push filled origin,
    );
    used = axiom_used h;
  }

-- the same of a clause that comes without hints
pub given_gains : (atoms : List Atom) (old new : SolverState) (clause : List Lit) (how : Added) (number : ℕ)
    (origins filled pushed : List StepSource) (origin : StepSource) → NeedsNoHints how → AddsTo old new clause how number
    → imported_of origin ≡ None → IsFilled origins filled (length old.log.steps)
    → length filled ≡ length old.log.steps → pushed ≡ filled ++ origin ∷ [] → (sides : List SideClause)
    (pending : Option Pending) → length old.log.steps < old.log.limit
    → GainsGiven (atoms_of atoms clause) (source_of origin []) (state_over atoms old origins sides pending)
    (state_over atoms new pushed sides pending)
given_gains atoms old new clause how number origins filled pushed origin needs adds own same long is sides pending room
    =
    record {
      gains = subst (λ step. GainsStep step sides (log_over atoms old origins sides) (log_over atoms new pushed sides))
          (given_is atoms clause how origin own)
          (step_gains atoms old new (step_given clause how) (gains_of old new clause how number needs adds) origins
          filled pushed origin same long is sides room);
      pending_same = refl;
    }

pub given_whole : (atoms : List Atom) (old new : SolverState) (clause : List Lit) (how : Added) (number : ℕ)
    (origins filled pushed : List StepSource) (origin : StepSource) → NeedsNoHints how → AddsTo old new clause how number
    → IsFilled origins filled (length old.log.steps) → length filled ≡ length old.log.steps
    → pushed ≡ filled ++ origin ∷ [] → HasRoomFor (length atoms) clause → IsLifting atoms old origins
    → IsLifting atoms new pushed
given_whole atoms old new clause how number origins filled pushed origin needs adds same long is room h =
    step_whole atoms old new (step_given clause how) (gains_of old new clause how number needs adds) origins filled
    pushed origin same long is (subst (HasRoomFor (length atoms)) (sym (step_given_clause clause how)) room) h

-- origins that were said again
pub filled_whole : (atoms : List Atom) (s : SolverState) (origins filled : List StepSource) → IsLifting atoms s origins
    → IsFilled origins filled (length s.log.steps) → IsLifting atoms s filled
filled_whole atoms s origins filled h f = record {
  room = h.room;
  marked = f.within;
  used = λ k name is. h.used k name (sym (f.same k) ∙ is);
}

pub filled_state : (atoms : List Atom) (s : SolverState) (origins filled : List StepSource) (sides : List SideClause)
    (pending : Option Pending) → IsFilled origins filled (length s.log.steps)
    → state_over atoms s filled sides pending ≡ state_over atoms s origins sides pending
filled_state atoms s origins filled sides pending f =
    ap (λ steps. record {
      log = record { limit = s.log.limit; steps = steps; sides = sides };
      pending = pending;
    })
    (listed_same (lifted_at atoms s filled) (lifted_at atoms s origins) (length s.log.steps)
    (λ k lt. ap (λ o. lifted_step atoms (get_or s.log.steps k no_step) o (in_use s.active (k + 1))) (f.same k)))

-- the clause of literals that were found
pub stands : (atoms : List Atom) (literals : List AtomLit) (lits clause : List Lit) → AddsLits atoms literals [] lits
    → IsClauseOf lits clause → StandsFor atoms literals clause
stands atoms literals lits clause adds of =
    let is : lits ≡ adds.more = adds.is in
    record {
      known = λ l c. adds.known l (subst (λ xs. Contains xs l) is ((of.members l).0 c));
      same = record {
        there = λ m c.
            let w = image_from (lit_of atoms) clause m c in
            subst (λ xs. Contains xs m) adds.stand
            (subst (λ x. Contains (atoms_of atoms adds.more) x) w.2
            (image_there (lit_of atoms) adds.more w.0
            (subst (λ xs. Contains xs w.0) is ((of.members w.0).0 w.1))));
        back = λ m c.
            let w = image_from (lit_of atoms) adds.more m
            (subst (λ xs. Contains xs m) (sym adds.stand) c) in
            subst (λ x. Contains (atoms_of atoms clause) x) w.2
            (image_there (lit_of atoms) clause w.0
            ((of.members w.0).1 (subst (λ xs. Contains xs w.0) (sym is) w.1)));
      };
    }

abbrev pub added : ℕ → Result ℕ LogFault
added number = Ok number

abbrev pub refused : LogFault → Result ℕ LogFault
refused fault = Err fault

pub ok_not_full : (number : ℕ) → added number ≡ refused LogFull → ⊥
ok_not_full number e = cc

-- ---- axioms

pub axiom_guarded : (r : Result (Unit {0}) Halt) (name : AxiomName) (old new : AtomState) (f : Framework)
    → OnOk r (AddsAxiom name old new) → OnErr r (new ≡ old) → IsAxiomOf f name → IsGuardedLog f old.log
    → IsGuardedLog f new.log
axiom_guarded (Ok u) name old new f ok err is h =
    let stays = axiom_stays f name ok.clause old.log new.log h.form h.guards is ok.takes in
    record { form = stays.form; guards = stays.guards }
axiom_guarded (Err halt) name old new f ok err is h = subst (λ (s : AtomState). IsGuardedLog f s.log) (sym err) h

pub stands_if : (atoms : List Atom) (literals : List AtomLit) (lits : List Lit) (r : Result (List Lit) Memory)
    → AddsLits atoms literals [] lits → IfOk r (IsClauseOf lits) → IfOk r (StandsFor atoms literals)
stands_if atoms literals lits (Ok clause) adds of = stands atoms literals lits clause adds of
stands_if atoms literals lits (Err m) adds of = of

-- ---- origins that are said again

-- one more step that follows from its hints says nothing new
pub hints_pushed : (origins : List StepSource) (k : ℕ)
    → slice_index_or (origins ++ Hints ∷ []) k Hints ≡ slice_index_or origins k Hints
hints_pushed origins k =
    ⊎_elim
    (λ (early : k < length origins). get_or_append_left origins (Hints ∷ []) Hints k early)
    (λ (late : length origins ≤ k).
    ⊎_elim
    (λ (here : k < length origins + 1).
    get_or_push origins Hints Hints k (omega arith) ∙ sym (get_or_past origins k Hints late))
    (λ (past : length origins + 1 ≤ k).
    get_or_past (origins ++ Hints ∷ []) k Hints (omega (arith, length_push origins Hints))
    ∙ sym (get_or_past origins k Hints late))
    (cases_lt k (length origins + 1)))
    (cases_lt k (length origins))

pub filled_more : (old filled : List StepSource) (steps : ℕ) → IsFilled old filled steps → length filled < steps
    → IsFilled old (filled ++ Hints ∷ []) steps
filled_more old filled steps h lt = record {
  within = omega (arith, length_push filled Hints);
  same = λ k. hints_pushed filled k ∙ h.same k;
}
