-- What a search leaves and tells, over atoms.
use Rattle.std.proofs.Common.{◌≡◌, ℕ, ◌+◌, ◌-◌, ◌<◌, ◌≤◌, List, [], ◌∷◌, ◌++◌, length, get_or, ap, sym, subst, ◌∙◌, refl, arith, inl, inr, ⊎_elim, Bool, true, false, not}
use Rattle.std.specs.Prelude.{◌⊎◌, Contains, filter}
use Rattle.std.proofs.lemmas.Bool.{cases_lt, false≢true}
use Rattle.std.proofs.lemmas.List.{length_push, length-append, take_all}
use Rattle.lists.proofs.Filters.{Contains-filter}
use Rattle.plain_lits.specs.declared.lit.Lit.{Lit}
use Rattle.plain_lits.specs.Literals.{negation}
use Rattle.plain_lits.specs.Units.{Units}
use Rattle.plain_lits.specs.HintCheck.{IsTautology}
use Rattle.plain_lits.specs.Checking.{HasRoomFor, HaveRoomFor}
use Rattle.semantics.specs.Frameworks.{Framework}
use Rattle.hinted_log.specs.Logs.{LogState, clauses_of, no_step, derived_step}
use Rattle.sat_core.specs.Solving.{SolverState, IsUnitOf, IsModel, IsCore, Closes, Learns, Keeps, Holds, clause_of, front, begun}
use Rattle.sat_core.proofs.Keeping.{shown_as, keeps_logs, derives_derived}
use Rattle.atom_table.specs.Numbering.{AreDifferent}
use Rattle.meaning_atoms.specs.declared.atom.Atom.{Atom}
use Rattle.meaning_atoms.specs.declared.atom.AtomLit.{AtomLit}
use Rattle.meaning_atoms.specs.Literals.{negated}
use Rattle.meaning_atoms.specs.Worlds.{IsFact}
use Rattle.af_axioms.specs.Facts.{IsFactValue}
use Rattle.oracle_face.specs.Logs as face
use Rattle.oracle_face.specs.Logs.{LogStep, SideClause, IsNew, FactsAreFalse, working, is_unit, closings_of}
use Rattle.oracle_face.specs.Goals.{RefutesGoals}
use Rattle.oracle_face.specs.Growing.{Works, IsFurther, NoSide}
use Rattle.oracle_face.specs.declared.face.Pending.TheVariants.{Learned as InHand}
use Rattle.session_log.specs.Guards.{IsGuarded}
use Rattle.session_log.proofs.Closing.{closed_refutes_goals}
use Rattle.oracle_face.specs.declared.step_source.StepSource.{StepSource}
use Rattle.atom_solver.specs.Searches.{Satisfies}
use Rattle.atom_solver.specs.Assumed.{of_var, AreAssumed, AreNear}
use Rattle.atom_solver.specs.Lifted.{atom_at, lit_of, atoms_of, in_use, lifted_at, listed, log_upto, log_over}
use Rattle.atom_solver.proofs.Listing.{length-listed, get_or-listed, take-listed, Contains-listed, all_counted, none_counted}
use Rattle.atom_solver.proofs.Lifting.{in_use_yes, in_use_gives, in_use_no, IsKnown, same_lits, lit_back, tautology_back, step_lifted, room_at}
use Rattle.atom_solver.proofs.Deriving.{shown_follows, derived_at}
use Rattle.atom_solver.proofs.Learning.{IsLearnedAt, AreNamed, learned_still, has_learned}
use Rattle.lists.proofs.Images.{image_there, image_from}

-- ---- facts

opposite : (p q : Bool) → (p ≡ q → ⊥) → p ≡ not q
opposite true true ne = absurd (ne refl)
opposite true false ne = refl
opposite false true ne = refl
opposite false false ne = absurd (ne refl)

twice : (p : Bool) → not (not p) ≡ true → p ≡ true
twice true e = refl
twice false e = e

same_or_opposite : (p q : Bool) → (p ≡ q) ⊎ (p ≡ not q)
same_or_opposite true true = inl refl
same_or_opposite true false = inr refl
same_or_opposite false true = inr refl
same_or_opposite false false = inl refl

-- a clause of which no literal is assumed speaks of no fact but as false
pub facts_false : (f : Framework) (atoms : List Atom) (goals : List AtomLit) (assumed clause : List Lit)
    → AreAssumed f atoms goals assumed → HasRoomFor (length atoms) clause
    → ((l : Lit) → Contains clause l → Contains assumed l → ⊥) → FactsAreFalse f (atoms_of atoms clause)
facts_false f atoms goals assumed clause are room unassumed = record {
  false_there = λ m c fact.
      let w = image_from (lit_of atoms) clause m c in
      let l = w.0 in
      let is = are.facts l.var (room l w.1) (subst (λ (x : AtomLit). IsFact f x.atom) (sym w.2) fact) in
      let value : is.value ≡ not l.positive =
      opposite is.value l.positive
      (λ e. unassumed l w.1 (subst (λ p. Contains assumed (of_var l.var p)) e is.there)) in
      subst (λ (x : AtomLit). IsFactValue f x.atom (not x.positive)) w.2
      (subst (λ p. IsFactValue f (atom_at atoms l.var) p) value is.so);
}

module _ (atoms : List Atom) (s : SolverState) (origins : List StepSource) (different : AreDifferent atoms)
    (room : HaveRoomFor (length atoms) (clauses_of s.log.steps)) where
  abbrev pub lifted_to : ℕ → List LogStep
  lifted_to k = listed (lifted_at atoms s origins) k

  -- a clause that searches use is that of a step in use
  pub working_back : (n : ℕ) (clause : List AtomLit) → Contains (working (lifted_to n)) clause
      → (j : ℕ) × (j < n) × Contains s.active (j + 1) × (atoms_of atoms (get_or s.log.steps j no_step).clause ≡ clause)
  working_back n clause c =
      let w = image_from (λ (x : LogStep). x.clause) (filter (λ (x : LogStep). not x.closing) (lifted_to n))
      clause c in
      let kept = (Contains-filter (λ (x : LogStep). not x.closing) (lifted_to n) w.0).0 w.1 in
      let at = Contains-listed (lifted_at atoms s origins) n w.0 kept.0 in
      let used : not (not (in_use s.active (at.0 + 1))) ≡ true =
      ap (λ (x : LogStep). not x.closing) at.2 ∙ kept.1 in (
        at.0,
        at.1,
        in_use_gives s.active (at.0 + 1) (twice (in_use s.active (at.0 + 1)) used),
        ap (λ (x : LogStep). x.clause) at.2 ∙ w.2,
      )

  -- a clause that holds that of no step in use is new
  pub new_there : (k : ℕ) (clause : List Lit) → k ≤ length s.log.steps → HasRoomFor (length atoms) clause
      → (IsTautology negation clause → ⊥)
      → ((number : ℕ) → Contains s.active number → number ≤ k → Holds clause (clause_of s.log.steps number) → ⊥)
      → IsNew (working (lifted_to k)) (atoms_of atoms clause)
  new_there k clause within clause_room plain none = record {
    plain = λ t. plain (tautology_back atoms clause different clause_room t);
    no_part = λ part.
        let at = working_back k part.part part.listed in
        let j = at.0 in
        let here : j + 1 - 1 ≡ j = omega arith in
        let lt = at.1 in
        none (j + 1) at.2 (omega arith) (record {
          each = λ l c.
              let there : Contains (get_or s.log.steps j no_step).clause l =
              subst (λ i. Contains (get_or s.log.steps i no_step).clause l) here c in
              let known = room_at (length atoms) s.log.steps j room (omega arith) l there in
              lit_back atoms clause l different clause_room known
              (part.inside (lit_of atoms l)
              (subst (λ xs. Contains xs (lit_of atoms l)) at.3
              (image_there (lit_of atoms) (get_or s.log.steps j no_step).clause l there)));
        });
  }

  -- ---- units

  unit_used : (k : ℕ) → length origins ≤ k → is_unit (lifted_at atoms s origins k) ≡ not (not (in_use s.active (k + 1)))
  unit_used k le = ap is_unit (derived_at atoms s origins different room k le)

  closing_unused : (k : ℕ) → (lifted_at atoms s origins k).closing ≡ not (in_use s.active (k + 1))
  closing_unused k = refl

  -- what is gained from a step on: learned clauses, and then steps that aren't in use
  pub record AreGained (assumed : List Lit) (first learned : ℕ) : Type 0 where
    pub marked : length origins ≤ first
    pub order : first ≤ learned
    pub within : learned ≤ length s.log.steps
    pub each : (k : ℕ) → first ≤ k → k < learned → IsLearnedAt assumed s k
    pub unused : (k : ℕ) → learned ≤ k → k < length s.log.steps → in_use s.active (k + 1) ≡ false

  -- each clause that was learned speaks of no fact but as false
  abbrev pub AreFree : Framework → ℕ → ℕ → Type 0
  AreFree f first learned = (k : ℕ) → first ≤ k → k < learned
      → FactsAreFalse f (atoms_of atoms (get_or s.log.steps k no_step).clause)

  pub gained_free : (f : Framework) (goals : List AtomLit) (assumed : List Lit) (first learned : ℕ)
      → AreAssumed f atoms goals assumed → AreGained assumed first learned → AreFree f first learned
  gained_free f goals assumed first learned are gained k low high =
      let within = gained.within in
      facts_false f atoms goals assumed (get_or s.log.steps k no_step).clause are
      (room_at (length atoms) s.log.steps k room (omega arith)) (gained.each k low high).unassumed

  pub gained_works : (f : Framework) (assumed : List Lit) (sides : List SideClause)
      (first learned : ℕ) (before after : Units) → AreFree f first learned → AreGained assumed first learned
      → after.used + first ≡ before.used + learned
      → Works f (log_upto atoms s origins sides first) (log_over atoms s origins sides) before after
  gained_works f assumed sides first learned before after free gained spent =
      let at = lifted_at atoms s origins in
      let n = length s.log.steps in
      let marked = gained.marked in
      let order = gained.order in
      let within = gained.within in
      let used_at : (k : ℕ) → first ≤ k → k < learned → in_use s.active (k + 1) ≡ true =
      λ k low high. in_use_yes s.active (k + 1) (gained.each k low high).used in
      let yes = all_counted is_unit at first learned order
      (λ k low high. unit_used k (omega arith) ∙ ap (λ b. not (not b)) (used_at k low high)) in
      let no = none_counted is_unit at learned n within
      (λ k low high. unit_used k (omega arith) ∙ ap (λ b. not (not b)) (gained.unused k low high)) in
      let is_early : (k : ℕ) → first ≤ k → k < n → is_unit (get_or (lifted_to n) k face.no_step) ≡ true → k < learned =
      λ k low high unit.
      ⊎_elim (λ lt. lt)
      (λ ge. absurd (false≢true (sym (unit_used k (omega arith)
      ∙ ap (λ b. not (not b)) (gained.unused k ge high))
      ∙ (sym (ap is_unit (get_or-listed at n k face.no_step high)) ∙ unit))))
      (cases_lt k learned) in
      let from = length-listed at first in
      let to = length-listed at n in
      record {
        fresh = λ k low high unit.
            let low_k : first ≤ k = omega arith in
            let high_k : k < n = omega arith in
            let h = gained.each k low_k (is_early k low_k high_k unit) in
            subst (λ steps. IsNew (working steps) (get_or (lifted_to n) k face.no_step).clause)
            (sym (take-listed at n k (omega arith)))
            (subst (λ (x : LogStep). IsNew (working (lifted_to k)) x.clause)
            (sym (get_or-listed at n k face.no_step high_k))
            (new_there k (get_or s.log.steps k no_step).clause (omega arith)
            (room_at (length atoms) s.log.steps k room high_k) h.plain h.holds_none));
        facts = λ k low high unit.
            let low_k : first ≤ k = omega arith in
            let high_k : k < n = omega arith in
            subst (λ (x : LogStep). FactsAreFalse f x.clause)
            (sym (get_or-listed at n k face.no_step high_k)) (free k low_k (is_early k low_k high_k unit));
        counted = omega arith;
      }

  pub gained_closings : (assumed : List Lit) (sides : List SideClause) (first learned : ℕ)
      → AreGained assumed first learned
      → closings_of (log_over atoms s origins sides)
      ≡ closings_of (log_upto atoms s origins sides first) + (length s.log.steps - learned)
  gained_closings assumed sides first learned gained =
      let at = lifted_at atoms s origins in
      let none = none_counted (λ (x : LogStep). x.closing) at first learned gained.order
      (λ k low high. ap not (in_use_yes s.active (k + 1) (gained.each k low high).used)) in
      let all = all_counted (λ (x : LogStep). x.closing) at learned (length s.log.steps) gained.within
      (λ k low high. ap not (gained.unused k low high)) in
      omega arith

  -- ---- answers

  -- the literals with an atom that are true, over atoms
  pub record AreValues (lits : List Lit) (values : List AtomLit) : Type 0 where
    pub there : (l : Lit) → Contains lits l → IsKnown atoms l → Contains values (lit_of atoms l)
    pub back : (m : AtomLit) → Contains values m → (l : Lit) × Contains lits l × IsKnown atoms l × (lit_of atoms l ≡ m)

  pub model_satisfies : (f : Framework) (goals : List AtomLit) (assumed lits : List Lit) (values : List AtomLit)
      (sides : List SideClause) → AreAssumed f atoms goals assumed → IsModel s assumed lits → AreValues lits values
      → Satisfies f (log_over atoms s origins sides) goals values
  model_satisfies f goals assumed lits values sides are model read =
      let n = length s.log.steps in
      let fact_there : (v : ℕ) → v < length atoms → IsFact f (atom_at atoms v)
      → (p : Bool) × Contains lits (of_var v p) × IsFactValue f (atom_at atoms v) p =
      λ v lt fact.
      let is = are.facts v lt fact in
      (is.value, model.assumed (of_var v is.value) is.there, is.so) in
      record {
        plain = λ t.
            let x = read.back t.0 t.1 in
            let y = read.back (negated t.0) t.2 in
            model.plain (
              x.0,
              x.1,
              subst (λ l. Contains lits l)
                  (same_lits atoms y.0 (negation x.0) different y.2 x.2 (y.3 ∙ ap negated (sym x.3))) y.1,
            );
        met = λ goal c.
            let w = are.met goal c in
            subst (λ m. Contains values m) w.2
            (read.there w.0 (model.assumed w.0 w.1) (are.known w.0 w.1));
        clauses = λ clause c.
            let at = working_back n clause c in
            let one = model.satisfied (at.0 + 1) at.2 in
            let here : at.0 + 1 - 1 ≡ at.0 = omega arith in
            let there : Contains (get_or s.log.steps at.0 no_step).clause one.0 =
            subst (λ i. Contains (get_or s.log.steps i no_step).clause one.0) here one.1 in (
              lit_of atoms one.0,
              subst (λ xs. Contains xs (lit_of atoms one.0)) at.3
                  (image_there (lit_of atoms) (get_or s.log.steps at.0 no_step).clause one.0 there),
              read.there one.0 one.2 (room_at (length atoms) s.log.steps at.0 room at.1 one.0 there),
            );
        facts = λ m c fact.
            let x = read.back m c in
            let l = x.0 in
            let w = fact_there l.var x.2 (subst (λ (y : AtomLit). IsFact f y.atom) (sym x.3) fact) in
            subst (λ (y : AtomLit). IsFactValue f y.atom y.positive) x.3
            (⊎_elim (λ e. subst (λ p. IsFactValue f (atom_at atoms l.var) p) e w.2)
            (λ e. absurd (model.plain (l, x.1, subst (λ p. Contains lits (of_var l.var p)) e w.1)))
            (same_or_opposite w.0 l.positive));
        told = λ clause m c there.
            let at = working_back n clause c in
            let x = image_from (lit_of atoms) (get_or s.log.steps at.0 no_step).clause m
            (subst (λ xs. Contains xs m) (sym at.3) there) in
            let l = x.0 in
            let known = room_at (length atoms) s.log.steps at.0 room at.1 l x.1 in
            let here : at.0 + 1 - 1 ≡ at.0 = omega arith in
            let in_step : Contains (clause_of s.log.steps (at.0 + 1)) l =
            subst (λ i. Contains (get_or s.log.steps i no_step).clause l) (sym here) x.1 in
            ⊎_elim
            (λ so. inl (subst (λ y. Contains values y) x.2 (read.there l so known)))
            (λ not_so. inr (subst (λ y. Contains values (negated y)) x.2 (read.there (negation l) not_so known)))
            (model.total (at.0 + 1) at.2 l in_step);
      }

  pub core_refutes : (f : Framework) (goals : List AtomLit) (assumed : List Lit) (sides : List SideClause)
      (number : ℕ) → AreNear f atoms goals assumed → IsGuarded (log_over atoms s origins sides)
      → IsCore s.log.steps assumed number → RefutesGoals f (log_over atoms s origins sides) goals number
  core_refutes f goals assumed sides number are guards core =
      let n = length s.log.steps in
      let low = core.step.from_one in
      let high = core.step.within in
      closed_refutes_goals f (log_over atoms s origins sides) goals number guards
      (record { from_one = low; within = omega (arith, length-listed (lifted_at atoms s origins) n) })
      (λ m c.
      let x = image_from (lit_of atoms) (get_or s.log.steps (number - 1) no_step).clause m
      (subst (λ (t : LogStep). Contains t.clause m) (step_lifted atoms s origins n number low high) c) in
      subst (λ (y : AtomLit). IsFactValue f y.atom (not y.positive) ⊎ Contains goals (negated y)) x.2
      (are.only (negation x.0) (core.negated x.0 x.1)))

  -- a further clause
  pub unit_further : (f : Framework) (goals : List AtomLit) (assumed clause : List Lit) (hints : List ℕ)
      (sides : List SideClause) → AreAssumed f atoms goals assumed → IsUnitOf s assumed clause hints
      → HasRoomFor (length atoms) clause
      → IsFurther NoSide f (log_over atoms s origins sides) (InHand (atoms_of atoms clause) hints)
  unit_further f goals assumed clause hints sides are unit clause_room =
      let n = length s.log.steps in
      let follows = shown_follows atoms s origins different room n clause hints (omega arith) clause_room
      (shown_as s (front s n) clause hints (take_all n s.log.steps (omega arith)) (λ number c. c) unit.shown) in (
        new_there n clause (omega arith) clause_room unit.fresh.plain
            (λ number c le holds. unit.fresh.holds_none number c holds),
        facts_false f atoms goals assumed clause are clause_room unit.unassumed,
        follows.checks,
        λ hint c closing. false≢true (sym (follows.kept hint c) ∙ closing),
      )

-- ---- a whole search

-- how a search ends: the log and the steps in use are as they were when the last clause was learned, or one step more
-- closes it
abbrev pub LeavesAs : SolverState → SolverState → Type 0
LeavesAs learned new =
    ((new.log ≡ learned.log) × (new.active ≡ learned.active)) ⊎ ((number : ℕ) × Closes learned new number)

keeps_left : (learned new : SolverState) → LeavesAs learned new → Keeps learned new
keeps_left learned new left =
    ⊎_elim (λ same. keeps_logs learned new same.0 same.1)
    (λ (w : (number : ℕ) × Closes learned new number).
    (derives_derived learned new w.1.clause w.1.hints w.0 w.1.shown (record { log_is = w.1.log_is; next = w.1.next })
    w.1.active_same).keeps) left

pub gained_of : (atoms : List Atom) (old learned new : SolverState) (origins : List StepSource)
    → (different : AreDifferent atoms) (room : HaveRoomFor (length atoms) (clauses_of new.log.steps))
    → (assumed : List Lit) (count : ℕ) → Learns assumed (begun old) learned count → AreNamed old
    → length origins ≤ length old.log.steps → LeavesAs learned new
    → AreGained atoms new origins different room assumed (length old.log.steps) (length old.log.steps + count)
gained_of atoms old learned new origins different room assumed count learns named marked left =
    let had = has_learned assumed (begun old) learned count learns named in
    let keeps = keeps_left learned new left in
    let steps = keeps.more_steps in
    let long = had.long in
    record {
      marked = marked;
      order = omega arith;
      within = omega (arith, ap length steps.1, length-append learned.log.steps steps.0);
      each = λ k low high.
          let early : k < length learned.log.steps = omega arith in
          learned_still assumed learned new k keeps had.named early (had.each k low early);
      unused = λ k low high.
          ⊎_elim
          (λ same.
          let e : length new.log.steps ≡ length learned.log.steps = ap (λ (g : LogState). length g.steps) same.0 in
          absurd (omega arith))
          (λ (w : (number : ℕ) × Closes learned new number).
          in_use_no new.active (k + 1)
          (λ c.
          let within = (had.named (k + 1) (subst (λ xs. Contains xs (k + 1)) w.1.active_same c)).within in
          omega arith)) left;
    }

-- so many steps close it
pub closing_left : (learned new : SolverState) → LeavesAs learned new
    → length new.log.steps ≤ length learned.log.steps + 1
closing_left learned new left =
    ⊎_elim
    (λ same.
    let e : length new.log.steps ≡ length learned.log.steps = ap (λ (g : LogState). length g.steps) same.0 in
    omega arith)
    (λ (w : (number : ℕ) × Closes learned new number).
    let e : length new.log.steps ≡ length (learned.log.steps ++ derived_step w.1.clause w.1.hints ∷ []) =
    ap (λ (g : LogState). length g.steps) w.1.log_is in
    omega (arith, e, length_push learned.log.steps (derived_step w.1.clause w.1.hints))) left
