-- What a search leaves, whatever it answers.
use Rattle.std.proofs.Common.{◌≡◌, ◌≢◌, ℕ, ◌+◌, ◌-◌, ◌≤◌, List, length, ap, sym, subst, ◌∙◌, refl, arith, inl, inr}
use Rattle.std.proofs.Common.{⊎_elim, Vec, Global}
use Rattle.std.specs.Prelude.{Contains, filter, Option, None, Some, Result, Ok, Err}
use Rattle.std.specs.Result.{IsErr, IsErrAnd}
use Rattle.std.proofs.lemmas.Bool.{false≢true, lt-ltb, ltb-true}
use Rattle.std.proofs.lemmas.List.{length-map, length-append}
use Rattle.std.proofs.lemmas.List.Elements.{Contains-append_left}
use Rattle.lists.proofs.Filters.{Contains-filter}
use Rattle.plain_lits.specs.declared.lit.Lit.{Lit}
use Rattle.plain_lits.specs.declared.halt.Halt.{Halt}
use Rattle.plain_lits.specs.declared.halt.Halt.TheVariants.{Spent, LogFull, Memory}
use Rattle.plain_lits.specs.Units.{Units}
use Rattle.plain_lits.specs.Checking.{HasRoomFor, HaveRoomFor}
use Rattle.semantics.specs.Frameworks.{Framework}
use Rattle.hinted_log.specs.Logs.{LogState, Step, clauses_of}
use Rattle.sat_core.specs.declared.answer.Solved.{Solved}
use Rattle.sat_core.specs.declared.answer.Solved.TheVariants.{Model as Satisfied, Core}
use Rattle.sat_core.specs.Solving.{SolverState, EndsCore, HasSearched, IsShown, Derives, Keeps, Learns, begun}
use Rattle.sat_core.specs.Solving.Learns.{nothing}
use Rattle.atom_table.specs.Numbering.{AreDifferent}
use Rattle.meaning_atoms.specs.declared.atom.Atom.{Atom}
use Rattle.meaning_atoms.specs.declared.atom.AtomLit.{AtomLit}
use Rattle.oracle_face.specs.declared.face.Pending.{Pending}
use Rattle.oracle_face.specs.declared.face.Pending.TheVariants.{Learned}
use Rattle.oracle_face.specs.Logs.{OracleLog, SideClause, closings_of}
use Rattle.oracle_face.specs.Growing.{HasRun, NoSide, UnlessMemory, Works, IsStop, halt_of}
use Rattle.oracle_face.specs.declared.step_source.StepSource.{StepSource}
use Rattle.atom_solver.specs.Assumed.{AreAssumed, AreNear}
use Rattle.oracle_face.specs.Goals.{RefutesGoals}
use Rattle.session_log.specs.Guards.{IsGuarded}
use Rattle.atom_solver.specs.States.{IsNoLoop}
use Rattle.atom_solver.specs.declared.searched.Searched.{Searched}
use Rattle.atom_solver.specs.declared.parts.SolverParts.{SolverParts}
use Rattle.atom_solver.specs.Inner.{IsKept, KeepsInHand, Tells}
use Rattle.atom_solver.specs.Searches.{IsAnswer, ends_in}
use Rattle.atom_solver.specs.Sides.{SideStore}
use Rattle.atom_solver.specs.Lifted.{IsLifting, lit_of, atoms_of, lifted_at, log_over, state_over}
use Rattle.atom_solver.specs.Tables.{Extends, has_atom, told}
use Rattle.atom_solver.proofs.Deriving.{front_same, search_grows, room_stays}
use Rattle.atom_solver.proofs.Learning.{AreNamed, has_learned}
use Rattle.atom_solver.proofs.Listing.{length-listed}
use Rattle.atom_solver.proofs.Lifting.{in_use_gives, in_use_yes, room_at, log_grow}
use Rattle.atom_solver.proofs.Searching.{LeavesAs, gained_of, gained_free, gained_works, gained_closings}
use Rattle.atom_solver.proofs.Searching.{closing_left, unit_further, AreValues, model_satisfies, core_refutes}
use Rattle.atom_solver.proofs.TableLemmas.{told_whole}
use Rattle.lists.proofs.Images.{image_there, image_from}
use Rattle.sat_core.proofs.Mirroring.{hints_named}

memory_not_spent : (count : ℕ) → Memory ≡ Spent count → ⊥
memory_not_spent count e = cc

-- a halt that is handed on
pub handed_on : {T : Type 0} (P : Option Halt → Type 0) (r : Result T Halt) (halt : Halt)
    → IsErr r × IsErrAnd r (λ x. x ≡ halt) → P (Some halt) → P (halt_of r)
handed_on P (Ok value) halt h p = absurd (false≢true h.0)
handed_on P (Err x) halt h p = subst (λ y. P (Some y)) (sym h.1) p

pub not_spent : {T : Type 0} (r : Result T Halt) → IsErr r × IsErrAnd r (λ x. x ≡ Memory) → (count : ℕ)
    → r ≡ Err (Spent count) → ⊥
not_spent (Ok value) h count e = absurd (false≢true h.0)
not_spent (Err x) h count e = let halt : x ≡ Spent count = cc in memory_not_spent count (sym h.1 ∙ halt)

abbrev pub halted : Halt → Result Solved Halt
halted halt = Err halt

abbrev pub answered : Solved → Result Solved Halt
answered solved = Ok solved

-- the same where what a search found is counted
pub handed_on_ending : (f : Framework) (old new : OracleLog) (pending : Option Pending) (before after : Units)
    (r : Result Searched Halt) → IsErr r × IsErrAnd r (λ x. x ≡ Memory)
    → ((most : ℕ) → HasRun NoSide most f old new pending before after (Some Memory))
    → HasRun NoSide (ends_in r) f old new pending before after (halt_of r)
handed_on_ending f old new pending before after r h run =
    handed_on (λ halt. HasRun NoSide (ends_in r) f old new pending before after halt) r Memory h (run (ends_in r))

pub ok_not_memory : (solved : Solved) → answered solved ≡ halted Memory → ⊥
ok_not_memory solved e = cc

pub spent_not_memory : (count : ℕ) → halted (Spent count) ≡ halted Memory → ⊥
spent_not_memory count e = cc

pub full_not_memory : halted LogFull ≡ halted Memory → ⊥
full_not_memory e = cc

pub unless_all : (P : Type 0) (halt : Option Halt) → P → UnlessMemory halt P
unless_all P None p = p
unless_all P (Some (Spent count)) p = p
unless_all P (Some LogFull) p = p
unless_all P (Some Memory) p = tt

pub run_memory : (atoms : List Atom) (old new : SolverState) (origins : List StepSource) (sides : List SideClause)
    (f : Framework) (pending : Option Pending) (before after : Units) (most : ℕ) → Keeps old new
    → after.limit ≡ before.limit
    → HasRun NoSide most f (log_over atoms old origins sides) (log_over atoms new origins sides) pending before after
    (Some Memory)
run_memory atoms old new origins sides f pending before after most keeps limit = record {
  grows = search_grows atoms old new origins sides keeps;
  limit = limit;
  works = tt;
  closing = tt;
  stop = tt;
}

-- a derived clause has only variables that were there
clause_room : (atoms : List Atom) (s : SolverState) (clause : List Lit) (hints : List ℕ)
    → HaveRoomFor (length atoms) (clauses_of s.log.steps) → IsShown s clause hints → HasRoomFor (length atoms) clause
clause_room atoms s clause hints room shown l c =
    let from = shown.from_hints l c in
    let named = hints_named (clauses_of s.log.steps) clause hints from.0 shown.taken from.1 in
    let low = named.from_one in
    let high = named.within in
    room_at (length atoms) s.log.steps (from.0 - 1) room
    (omega (arith, length-map s.log.steps (λ (x : Step). x.clause))) l from.2

-- what is read back of true literals
told_values : (atoms : List Atom) (s : SolverState) (origins : List StepSource) (different : AreDifferent atoms)
    (room : HaveRoomFor (length atoms) (clauses_of s.log.steps)) (lits : List Lit)
    → AreValues atoms s origins different room lits (told atoms lits)
told_values atoms s origins different room lits = record {
  there = λ l c known. image_there (lit_of atoms) (filter (has_atom atoms) lits) l
      ((Contains-filter (has_atom atoms) lits l).1 (c, lt-ltb l.var (length atoms) known));
  back = λ m c.
      let w = image_from (lit_of atoms) (filter (has_atom atoms) lits) m c in
      let kept = (Contains-filter (has_atom atoms) lits w.0).0 w.1 in
      (w.0, kept.0, ltb-true w.0.var (length atoms) kept.1, w.2);
}

module _ (atoms : List Atom) (old new : SolverState) (origins : List StepSource) (sides : List SideClause) (f : Framework)
    (goals : List AtomLit) (assumed : List Lit) (different : AreDifferent atoms)
    (room : HaveRoomFor (length atoms) (clauses_of new.log.steps)) (marked : length origins ≤ length old.log.steps)
    (are : AreAssumed f atoms goals assumed) (named : AreNamed old) (keeps : Keeps old new)
    (before after : Units) (limit : after.limit ≡ before.limit) where
  pub run_of : (learned : SolverState) (count most : ℕ) (pending : Option Pending) (halt : Option Halt)
      → Learns assumed (begun old) learned count → LeavesAs learned new → after.used ≡ before.used + count
      → length new.log.steps ≤ length old.log.steps + count + most
      → IsStop NoSide f (log_over atoms new origins sides) pending after halt
      → HasRun NoSide most f (log_over atoms old origins sides) (log_over atoms new origins sides) pending before after
      halt
  run_of learned count most pending halt learns left spent few stop =
      let gained = gained_of atoms old learned new origins different room assumed count learns named marked left in
      let front = front_same atoms old new origins sides keeps in
      let closings : closings_of (log_over atoms new origins sides)
      ≡ closings_of (log_over atoms old origins sides) + (length new.log.steps - (length old.log.steps + count)) =
      subst (λ (g : OracleLog). closings_of (log_over atoms new origins sides)
      ≡ closings_of g + (length new.log.steps - (length old.log.steps + count))) front
      (gained_closings atoms new origins different room assumed sides (length old.log.steps)
      (length old.log.steps + count) gained) in
      record {
        grows = search_grows atoms old new origins sides keeps;
        limit = limit;
        works = unless_all _ halt
            (subst (λ (g : OracleLog). Works f g (log_over atoms new origins sides) before after) front
            (gained_works atoms new origins different room f assumed sides (length old.log.steps)
            (length old.log.steps + count) before after
            (gained_free atoms new origins different room f goals assumed (length old.log.steps)
            (length old.log.steps + count) are gained) gained (omega arith)));
        closing = unless_all _ halt (omega arith);
        stop = stop;
      }

  -- ---- answers

  abbrev same_left : (learned : SolverState) → new ≡ learned → LeavesAs learned new
  same_left learned e = inl (ap (λ (x : SolverState). x.log) e, ap (λ (x : SolverState). x.active) e)

  few_left : (learned : SolverState) (count most : ℕ) → Learns assumed (begun old) learned count
      → length new.log.steps ≤ length learned.log.steps + most
      → length new.log.steps ≤ length old.log.steps + count + most
  few_left learned count most learns few =
      let long = (has_learned assumed (begun old) learned count learns named).long in
      omega arith

  same_long : (learned : SolverState) → new.log ≡ learned.log
      → length new.log.steps ≤ length learned.log.steps + 0
  same_long learned e =
      let long : length new.log.steps ≡ length learned.log.steps = ap (λ (g : LogState). length g.steps) e in
      omega arith

  pub found_run : (solved : Solved) (found : Searched) (pending : Option Pending) → Tells atoms solved found
      → HasSearched old new assumed before after (Ok solved)
      → HasRun NoSide (ends_in (Ok found)) f (log_over atoms old origins sides) (log_over atoms new origins sides)
      pending before after None
  found_run (Satisfied lits) found pending tells h =
      let left = same_left h.learned h.ends.0 in
      subst (λ x. HasRun NoSide (ends_in (Ok x)) f (log_over atoms old origins sides)
      (log_over atoms new origins sides) pending before after None) (sym tells)
      (run_of h.learned h.count 0 pending None h.learns left h.spent
      (few_left h.learned h.count 0 h.learns (same_long h.learned (ap (λ (x : SolverState). x.log) h.ends.0))) tt)
  found_run (Core step) found pending tells h =
      let left : LeavesAs h.learned new = ⊎_elim (λ e. same_left h.learned e) (λ closes. inr (step, closes))
      h.ends.closed in
      subst (λ x. HasRun NoSide (ends_in (Ok x)) f (log_over atoms old origins sides)
      (log_over atoms new origins sides) pending before after None) (sym tells)
      (run_of h.learned h.count 1 pending None h.learns left h.spent
      (few_left h.learned h.count 1 h.learns (closing_left h.learned new left)) tt)

  pub found_answer : (solved : Solved) (found : Searched) → Tells atoms solved found
      → HasSearched old new assumed before after (Ok solved) → IsGuarded (log_over atoms new origins sides)
      → IsAnswer f (log_over atoms new origins sides) goals found
  found_answer (Satisfied lits) found tells h guards =
      subst (IsAnswer f (log_over atoms new origins sides) goals) (sym tells)
      (model_satisfies atoms new origins different room f goals assumed lits (told atoms lits) sides are h.ends.1
      (told_values atoms new origins different room lits))
  found_answer (Core step) found tells h guards =
      subst (IsAnswer f (log_over atoms new origins sides) goals) (sym tells)
      (core_refutes atoms new origins different room f goals assumed sides step (record { only = are.only }) guards
      h.ends.core)

  pub halted_run : (halt : Halt) (pending : Option Pending)
      → (halted halt ≢ halted Memory → HasSearched old new assumed before after (Err halt))
      → IsKept atoms new.pending pending
      → HasRun NoSide 0 f (log_over atoms old origins sides) (log_over atoms new origins sides) pending before after
      (Some halt)
  halted_run (Spent count) pending searched kept =
      let h = searched (λ e. spent_not_memory count e) in
      let spent = h.ends.2 in
      let in_hand = spent.in_hand in
      let shown = spent.further.shown in
      let known = clause_room atoms new in_hand.clause in_hand.hints room shown in
      let kept_as : pending ≡ Some (Learned (told atoms in_hand.clause) in_hand.hints) =
      subst (λ x. IsKept atoms x pending) spent.kept kept in
      let clause_as = told_whole atoms in_hand.clause known in
      run_of h.learned h.count 0 pending (Some (Spent count)) h.learns (inl (h.ends.0, h.ends.1)) h.spent
      (few_left h.learned h.count 0 h.learns (same_long h.learned h.ends.0))
      (record {
        is_limit = spent.is_limit;
        is_used = spent.is_used;
        in_hand = Learned (atoms_of atoms in_hand.clause) in_hand.hints;
        kept = kept_as ∙ ap (λ clause. Some (Learned clause in_hand.hints)) clause_as;
        further = unit_further atoms new origins different room f goals assumed in_hand.clause in_hand.hints sides are
            spent.further known;
      })
  halted_run LogFull pending searched kept =
      let h = searched (λ e. full_not_memory e) in
      run_of h.learned h.count 0 pending (Some LogFull) h.learns (same_left h.learned h.ends.0) h.spent
      (few_left h.learned h.count 0 h.learns (same_long h.learned (ap (λ (x : SolverState). x.log) h.ends.0)))
      (length-listed (lifted_at atoms new origins) (length new.log.steps) ∙ h.ends.1)
  halted_run Memory pending searched kept =
      run_memory atoms old new origins sides f pending before after 0 keeps limit

-- a look that found a core: as a search that learned nothing
pub looked : (old new : SolverState) (assumed : List Lit) (step : ℕ) (units : Units) → EndsCore (begun old) new assumed
    step
    → HasSearched old new assumed units units (answered (Core step))
looked old new assumed step units ends = record {
  learned = begun old;
  count = 0;
  learns = nothing (begun old);
  spent = omega arith;
  ends = ends;
}

module _ (atoms : List Atom) (old new : SolverState) (origins : List StepSource) (sides : List SideClause) (f : Framework)
    (goals : List AtomLit) (assumed : List Lit) (different : AreDifferent atoms)
    (room : HaveRoomFor (length atoms) (clauses_of new.log.steps)) (marked : length origins ≤ length old.log.steps)
    (named : AreNamed old) (keeps : Keeps old new) (step : ℕ) (ends : EndsCore (begun old) new assumed step) where
  near_left : LeavesAs (begun old) new
  near_left =
      ⊎_elim (λ e. inl (ap (λ (x : SolverState). x.log) e, ap (λ (x : SolverState). x.active) e))
      (λ closes. inr (step, closes)) ends.closed

  pub near_run : (pending : Option Pending) (units : Units)
      → HasRun NoSide 1 f (log_over atoms old origins sides) (log_over atoms new origins sides) pending units units None
  near_run pending units =
      let gained = gained_of atoms old (begun old) new origins different room assumed 0 (nothing (begun old)) named
      marked
      near_left in
      let front = front_same atoms old new origins sides keeps in
      let few = closing_left (begun old) new near_left in
      let closings : closings_of (log_over atoms new origins sides)
      ≡ closings_of (log_over atoms old origins sides) + (length new.log.steps - (length old.log.steps + 0)) =
      subst (λ (g : OracleLog). closings_of (log_over atoms new origins sides)
      ≡ closings_of g + (length new.log.steps - (length old.log.steps + 0))) front
      (gained_closings atoms new origins different room assumed sides (length old.log.steps)
      (length old.log.steps + 0) gained) in
      record {
        grows = search_grows atoms old new origins sides keeps;
        limit = refl;
        works = subst (λ (g : OracleLog). Works f g (log_over atoms new origins sides) units units) front
            (gained_works atoms new origins different room f assumed sides (length old.log.steps)
            (length old.log.steps + 0) units units (λ k low high. absurd (omega arith)) gained (omega arith));
        closing = omega arith;
        stop = tt;
      }

  pub near_refutes : AreNear f atoms goals assumed → IsGuarded (log_over atoms new origins sides)
      → RefutesGoals f (log_over atoms new origins sides) goals step
  near_refutes are guards = core_refutes atoms new origins different room f goals assumed sides step are guards
      ends.core

-- the clause in hand of a search whose budget was spent is one that it learned
pub halted_no_loop : (atoms : List Atom) (old new : SolverState) (assumed : List Lit) (before after : Units)
    (halt : Halt) (pending : Option Pending)
    → (halted halt ≢ halted Memory → HasSearched old new assumed before after (halted halt))
    → IsKept atoms new.pending pending → (count : ℕ) → halt ≡ Spent count → IsNoLoop pending
halted_no_loop atoms old new assumed before after (Spent n) pending searched kept count e =
    let h = searched (λ x. spent_not_memory n x) in
    let spent = h.ends.2 in
    let kept_as : pending ≡ Some (Learned (told atoms spent.in_hand.clause) spent.in_hand.hints) =
    subst (λ x. IsKept atoms x pending) spent.kept kept in
    subst (λ (p : Option Pending). IsNoLoop p) (sym kept_as) tt
halted_no_loop atoms old new assumed before after LogFull pending searched kept count e = absurd (cc)
halted_no_loop atoms old new assumed before after Memory pending searched kept count e =
    absurd (memory_not_spent count e)

-- ---- parts

pub whole_after : (atoms : List Atom) (old new : SolverState) (origins : List StepSource) → IsLifting atoms old origins
    → Derives old new → IsLifting atoms new origins
whole_after atoms old new origins h derives =
    let steps = derives.keeps.more_steps in
    let marked = h.marked in
    record {
      room = room_stays (length atoms) old new h.room derives;
      marked = omega (arith, ap length steps.1, length-append old.log.steps steps.0);
      used = λ k name is. in_use_yes new.active (k + 1)
          (subst (λ active. Contains active (k + 1)) (sym derives.keeps.more_active.1)
          (Contains-append_left old.active derives.keeps.more_active.0 (k + 1)
          (in_use_gives old.active (k + 1) (h.used k name is))));
    }

pub whole_grown : (literals : List AtomLit) (old new : List Atom) (s t : SolverState) (origins : List StepSource)
    → IsLifting old s origins → Extends literals old new → t ≡ s → IsLifting new t origins
whole_grown literals old new s t origins h grows e =
    let long : length new ≡ length old + length grows.more = ap length grows.is ∙ length-append old grows.more in
    subst (λ x. IsLifting new x origins) (sym e) (record {
      room = λ clause c l there. let lt = h.room clause c l there in omega arith;
      marked = h.marked;
      used = h.used;
    })

pub log_grown : (literals : List AtomLit) (old new : List Atom) (s t : SolverState) (origins : List StepSource)
    (sides : List SideClause) → IsLifting old s origins → Extends literals old new → t ≡ s
    → log_over new t origins sides ≡ log_over old s origins sides
log_grown literals old new s t origins sides h grows e =
    ap (λ x. log_over new x origins sides) e
    ∙ (ap (λ atoms. log_over atoms s origins sides) grows.is
    ∙ log_grow old grows.more s origins sides (length s.log.steps) h.room (omega arith))

-- what is in hand is kept, and the log is the same
pub log_kept : (old new : SolverParts) → KeepsInHand old new
    → log_over new.table new.solver new.origins.items new.sides.kept
    ≡ log_over old.table old.solver old.origins.items old.sides.kept
log_kept old new h =
    ap (λ atoms. log_over atoms new.solver new.origins.items new.sides.kept) h.table
    ∙ (ap (λ s. log_over old.table s new.origins.items new.sides.kept) h.solver
    ∙ (ap (λ (origins : Vec StepSource Global). log_over old.table old.solver origins.items new.sides.kept) h.origins
    ∙ ap (λ (sides : SideStore). log_over old.table old.solver old.origins.items sides.kept) h.sides))

pub whole_kept : (old new : SolverParts) → KeepsInHand old new → IsLifting old.table old.solver old.origins.items
    → IsLifting new.table new.solver new.origins.items
whole_kept old new h whole =
    subst (λ atoms. IsLifting atoms new.solver new.origins.items) (sym h.table)
    (subst (λ s. IsLifting old.table s new.origins.items) (sym h.solver)
    (subst (λ (origins : Vec StepSource Global). IsLifting old.table (begun old.solver) origins.items) (sym h.origins)
    (record { room = whole.room; marked = whole.marked; used = whole.used })))

pub state_grown : (literals : List AtomLit) (old new : List Atom) (s t : SolverState) (origins : List StepSource)
    (sides : List SideClause) (pending : Option Pending) → IsLifting old s origins → Extends literals old new → t ≡ s
    → state_over new t origins sides pending ≡ state_over old s origins sides pending
state_grown literals old new s t origins sides pending h grows e =
    ap (λ (log : OracleLog). record { log = log; pending = pending })
    (log_grown literals old new s t origins sides h grows e)
