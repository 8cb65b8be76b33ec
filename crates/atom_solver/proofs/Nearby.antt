-- What a look near goals leaves, whatever it answers.
use Rattle.std.proofs.Common.{◌≡◌, ℕ, ◌≤◌, List, [], length, sym, subst, refl}
use Rattle.std.specs.Prelude.{IfOk, IfSome, OnOk, Option, None, Some, Result, Ok, Err}
use Rattle.lists.specs.declared.memory.Memory.{Memory as OutOfMemory}
use Rattle.plain_lits.specs.declared.lit.Lit.{Lit}
use Rattle.plain_lits.specs.Units.{Units}
use Rattle.plain_lits.specs.Checking.{HaveRoomFor}
use Rattle.semantics.specs.Frameworks.{Framework}
use Rattle.hinted_log.specs.Logs.{IsLog, clauses_of}
use Rattle.sat_core.specs.Solving.{SolverState, Derives, EndsCore, begun}
use Rattle.sat_core.specs.declared.answer.Solved.TheVariants.{Core}
use Rattle.atom_table.specs.Numbering.{AreDifferent}
use Rattle.meaning_atoms.specs.declared.atom.Atom.{Atom}
use Rattle.meaning_atoms.specs.declared.atom.AtomLit.{AtomLit}
use Rattle.oracle_face.specs.declared.face.Pending.{Pending}
use Rattle.oracle_face.specs.Goals.{RefutesGoals}
use Rattle.oracle_face.specs.Growing.{HasRun, NoSide}
use Rattle.oracle_face.specs.Logs.{OracleLog, SideClause}
use Rattle.std.specs.Result.{IsErr}
use Rattle.std.proofs.lemmas.Bool.{false≢true}
use Rattle.oracle_face.proofs.GrowingLemmas.{run_none, run_refused}
use Rattle.session_log.specs.Guards.{IsGuarded}
use Rattle.session_log.specs.Steps.{LearnsClauses, nothing}
use Rattle.oracle_face.specs.declared.step_source.StepSource.{StepSource}
use Rattle.atom_solver.specs.Assumed.{AreNear}
use Rattle.atom_solver.specs.Lifted.{log_over}
use Rattle.atom_solver.specs.Searches.{HasLooked}
use Rattle.atom_solver.proofs.Learning.{AreNamed}
use Rattle.atom_solver.proofs.Running.{looked, near_run, near_refutes, run_memory}
use Rattle.atom_solver.proofs.Worth.{found_learns}

module _ (atoms : List Atom) (old new : SolverState) (origins : List StepSource) (sides : List SideClause)
    (different : AreDifferent atoms) (room : HaveRoomFor (length atoms) (clauses_of new.log.steps))
    (form : IsLog new.log) (marked : length origins ≤ length old.log.steps) (derives : Derives old new)
    (named : AreNamed old) (assumed : List Lit) where
  -- what a look tells of a core
  abbrev pub Tells : Result (Option ℕ) OutOfMemory → Type 0
  Tells r = IfOk r (λ found. IfSome found (EndsCore (begun old) new assumed))

  pub looked_run : (f : Framework) (pending : Option Pending) (units : Units) (r : Result (Option ℕ) OutOfMemory)
      → Tells r → (r ≡ Ok None → new ≡ begun old)
      → HasLooked f (log_over atoms old origins sides) (log_over atoms new origins sides) pending units r
  looked_run f pending units (Ok (Some step)) core none =
      near_run atoms old new origins sides f [] assumed different room marked named derives.keeps step core pending units
  looked_run f pending units (Ok None) core none =
      subst (λ s. HasRun NoSide 1 f (log_over atoms old origins sides) (log_over atoms s origins sides) pending units units
      None) (sym (none refl)) (run_none NoSide 1 f (log_over atoms old origins sides) pending units)
  looked_run f pending units (Err refused) core none =
      λ most. run_memory atoms old new origins sides f pending units units most derives.keeps refl

  pub looked_learns : (units : Units) (r : Result (Option ℕ) OutOfMemory) → Tells r → (r ≡ Ok None → new ≡ begun old)
      → OnOk r (LearnsClauses (log_over atoms old origins sides) (log_over atoms new origins sides))
  looked_learns units (Ok (Some step)) core none =
      found_learns atoms old new origins sides different room form marked derives named assumed units units (Core step)
      (looked old new assumed step units core)
  looked_learns units (Ok None) core none =
      subst (λ s. LearnsClauses (log_over atoms old origins sides) (log_over atoms s origins sides)) (sym (none refl))
      (nothing (log_over atoms old origins sides))
  looked_learns units (Err refused) core none = tt

  pub looked_answer : (f : Framework) (goals : List AtomLit) → AreNear f atoms goals assumed
      → IsGuarded (log_over atoms new origins sides) → (r : Result (Option ℕ) OutOfMemory) → Tells r
      → IfOk r (λ found. IfSome found (RefutesGoals f (log_over atoms new origins sides) goals))
  looked_answer f goals near guards (Ok (Some step)) core =
      near_refutes atoms old new origins sides f goals assumed different room marked named derives.keeps step core near
      guards
  looked_answer f goals near guards (Ok None) core = tt
  looked_answer f goals near guards (Err refused) core = tt

-- memory was refused before the look
pub looked_refused : (f : Framework) (log : OracleLog) (pending : Option Pending) (units : Units)
    (r : Result (Option ℕ) OutOfMemory) → IsErr r → HasLooked f log log pending units r
looked_refused f log pending units (Ok found) e = absurd (false≢true e)
looked_refused f log pending units (Err refused) e = λ most. run_refused NoSide most f log pending units
