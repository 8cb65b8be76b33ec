-- What a search leaves where its parts were called one after the other.
use Rattle.std.proofs.Common.{◌≡◌, ◌∙◌, ℕ, ◌<◌, ◌≤◌, ◌-◌, List, [], ◌∷◌, ◌++◌, length, refl, sym, ap, subst, arith}
use Rattle.std.proofs.Common.{Option, None, Some, Result, Ok, Err}
use Rattle.std.specs.Prelude.{Bool, false, IsErr, IsErrAnd, IfOk}
use Rattle.std.proofs.lemmas.Bool.{false≢true}
use Rattle.std.proofs.lemmas.List.{append-nil, length-append}
use Rattle.plain_lits.specs.declared.halt.Halt.{Halt}
use Rattle.plain_lits.specs.declared.halt.Halt.TheVariants.{Spent, LogFull, Memory}
use Rattle.plain_lits.specs.Units.{Units}
use Rattle.semantics.specs.Frameworks.{Framework}
use Rattle.meaning_atoms.specs.declared.atom.AtomLit.{AtomLit}
use Rattle.oracle_face.specs.declared.face.Found.{Found}
use Rattle.oracle_face.specs.declared.face.Found.TheVariants.{Set, Refuted}
use Rattle.oracle_face.specs.declared.face.Pending.{Pending}
use Rattle.edit_rules.specs.Kinds.{framework_of}
use Rattle.oracle_face.specs.Goals.{AreGoals}
use Rattle.session_log.specs.Ends.{LoopInHand}
use Rattle.session_log.specs.Steps.{LearnsClauses}
use Rattle.atom_solver.specs.States.{AtomState}
use Rattle.framework_solver.specs.declared.solver.FrameworkSolver.{FrameworkSolver}
use Rattle.framework_solver.specs.Solvers.{AreInForce, IsWhole}
use Rattle.framework_solver.specs.Readings.{IsTurn, closes_turn}
use Rattle.framework_solver.specs.Stepping.{EndsInHand, GoesOnBySteps, in_hand_behind, out_of_memory_by}
use Rattle.framework_solver.specs.SteppingLaws.{goes_on_joined, goes_on_none}
use Rattle.framework_solver.specs.Updating.{GainsNeeded}
use Rattle.framework_solver.proofs.Forcing.{force_grown, whole_with}
use Rattle.framework_solver.proofs.GoingOn.{learned_go_on}
use Rattle.oracle_face.specs.Growing.{Making, NoSide, Grows, HasRun, IsFound, UnlessMemory, closes, halt_of}
use Rattle.oracle_face.specs.Logs.{OracleLog, SideClause}
use Rattle.oracle_face.proofs.GrowingLemmas.{grows_same, run_joined, run_none, unless_then}

-- a halt that a search hands on
pub halted : (f : Framework) (a b : OracleLog) (p : Option Pending) (u v : Units) (r : Result Found Halt) (halt : Halt)
    → IsErr r × IsErrAnd r (λ x. x ≡ halt) → HasRun NoSide 0 f a b p u v (Some halt)
    → HasRun NoSide (closes r) f a b p u v (halt_of r)
halted f a b p u v (Ok found) halt is run = absurd (false≢true is.0)
halted f a b p u v (Err x) halt is run = subst (λ y. HasRun NoSide 0 f a b p u v (Some y)) (sym is.1) run

pub halted_any : {T : Type 0} (f : Framework) (a b : OracleLog) (p : Option Pending) (u v : Units) (r : Result T Halt)
    (halt : Halt) → IsErr r × IsErrAnd r (λ x. x ≡ halt) → HasRun NoSide 0 f a b p u v (Some halt)
    → HasRun NoSide 0 f a b p u v (halt_of r)
halted_any f a b p u v (Ok found) halt is run = absurd (false≢true is.0)
halted_any f a b p u v (Err x) halt is run = subst (λ y. HasRun NoSide 0 f a b p u v (Some y)) (sym is.1) run

no_more : (old new : List SideClause) (more : List SideClause) → new ≡ old ++ more
    → ((k : ℕ) → length old ≤ k → k < length new → ⊥) → new ≡ old
no_more old new [] is none = is ∙ append-nil old
no_more old new (side ∷ more) is none =
    let long : length new ≡ length (old ++ side ∷ more) = ap length is in
    absurd (none (length old) (omega arith) (omega (arith, long, length-append old (side ∷ more))))

-- a call that makes no side clause leaves those that there are
pub same_sides : (old new : OracleLog) → Grows NoSide old new → new.sides ≡ old.sides
same_sides old new grows = no_more old.sides new.sides grows.more_sides.0 grows.more_sides.1 grows.made

-- what may be asked may still be asked then
pub goals_still : (f g : Framework) (old new : OracleLog) (goals : List AtomLit) → Grows NoSide old new → g ≡ f
    → AreGoals f old.sides goals → AreGoals g new.sides goals
goals_still f g old new goals grows same are =
    subst (λ h. AreGoals h new.sides goals) (sym same)
    (subst (λ sides. AreGoals f sides goals) (sym (same_sides old new grows)) are)

-- the axioms came, and then a search was made
pub forced_then : (f g : Framework) (a b c : OracleLog) (p q : Option Pending) (u v : Units) (most : ℕ)
    (halt : Option Halt) → g ≡ f → HasRun NoSide 0 f a b p u u None → HasRun NoSide most g b c q u v halt
    → HasRun NoSide most f a c q u v halt
forced_then f g a b c p q u v most halt same first second =
    run_joined NoSide NoSide NoSide 0 most most f a b c p q u u v halt (λ literals set h. h) (λ literals set h. h)
    (omega arith) first (subst (λ h. HasRun NoSide most h b c q u v halt) same second)

-- and then memory was refused
pub then_memory : (f : Framework) (a c : OracleLog) (q : Option Pending) (u v : Units) → HasRun NoSide 0 f a c q u v
    None
    → HasRun NoSide 0 f a c q u v (Some Memory)
then_memory f a c q u v run =
    record { grows = run.grows; limit = run.limit; works = tt; closing = tt; stop = tt }

-- what was run from the solver whose needed axioms are listed was run from the one before
pub listed_run : (p b : FrameworkSolver) (c : OracleLog) (q : Option Pending) (u v : Units) (halt : Option Halt)
    → b.framework ≡ p.framework → b.solver ≡ p.solver
    → HasRun NoSide 0 (framework_of b.framework) b.solver.log c q u v halt
    → HasRun NoSide 0 (framework_of p.framework) p.solver.log c q u v halt
listed_run p b c q u v halt framework solver run =
    subst (λ (k : AtomState). HasRun NoSide 0 (framework_of p.framework) k.log c q u v halt) solver
    (subst (λ f. HasRun NoSide 0 (framework_of f) b.solver.log c q u v halt) framework run)

-- and so it is with axioms that came to them
pub listed_gains : (p b : FrameworkSolver) (c : OracleLog) → b.framework ≡ p.framework → b.solver ≡ p.solver
    → GainsNeeded (framework_of b.framework) b.solver.log c → GainsNeeded (framework_of p.framework) p.solver.log c
listed_gains p b c framework solver gains =
    subst (λ (k : AtomState). GainsNeeded (framework_of p.framework) k.log c) solver
    (subst (λ f. GainsNeeded (framework_of f) b.solver.log c) framework gains)

-- ---- one search of several

-- a halt that a search of several hands on
pub halted_turn : (f : Framework) (a b : OracleLog) (p : Option Pending) (u v : Units)
    (r : Result (Option Found) Halt) (halt : Halt) → IsErr r × IsErrAnd r (λ x. x ≡ halt)
    → HasRun NoSide 0 f a b p u v (Some halt) → HasRun NoSide (closes_turn r) f a b p u v (halt_of r)
halted_turn f a b p u v (Ok found) halt is run = absurd (false≢true is.0)
halted_turn f a b p u v (Err x) halt is run = subst (λ y. HasRun NoSide 0 f a b p u v (Some y)) (sym is.1) run

pub longer : (a b : OracleLog) → Grows NoSide a b → length a.steps ≤ length b.steps
longer a b grows =
    let more = grows.more_steps in
    omega (arith, ap length more.1, length-append a.steps more.0)

-- what was learned, and what the model was read as
pub turn_steps : (f g : Framework) (a b c : OracleLog) → g ≡ f → LearnsClauses a b
    → ((own : ℕ) → GoesOnBySteps g own [] b c) → (own : ℕ) → GoesOnBySteps f own [] a c
turn_steps f g a b c same learns then own =
    goes_on_joined f own [] a b c (learned_go_on f own a b learns)
    (subst (λ h. GoesOnBySteps h own [] b c) same (then own))

-- a turn that began later is one from before
pub turn_later : (f : Framework) (a b c : OracleLog) (goals : List AtomLit) (r : Result (Option Found) Halt)
    → Grows NoSide a b → IfOk r (IsTurn f b c goals) → IfOk r (IsTurn f a c goals)
turn_later f a b c goals (Ok None) grows turn = let le = longer a b grows in omega arith
turn_later f a b c goals (Ok (Some found)) grows turn = turn
turn_later f a b c goals (Err halt) grows turn = tt

-- a search without an end, and then what its model was read as
pub turn_run : (f g : Framework) (a b c : OracleLog) (p q : Option Pending) (u v w : Units)
    (r : Result (Option Found) Halt) → g ≡ f → HasRun NoSide 0 f a b p u v None
    → HasRun NoSide (closes_turn r) g b c q v w (halt_of r) → HasRun NoSide (closes_turn r) f a c q u w (halt_of r)
turn_run f g a b c p q u v w r same first second =
    run_joined NoSide NoSide NoSide 0 (closes_turn r) (closes_turn r) f a b c p q u v w (halt_of r)
    (λ literals set h. h) (λ literals set h. h) (omega arith) first
    (subst (λ h. HasRun NoSide (closes_turn r) h b c q v w (halt_of r)) same second)

pub closes_found : (found : Found) → closes_turn (Ok (Some found)) ≡ closes (Ok found)
closes_found (Set set) = refl
closes_found (Refuted step) = refl

-- how far searches have come, of which each but the last had a model that lacked a loop clause
pub record HasTurned (first now : FrameworkSolver) (before after : Units) : Type 0 where
  pub whole : IsWhole now
  pub framework : now.framework ≡ first.framework
  pub in_force : AreInForce (framework_of first.framework) now.solver.log
  pub run : HasRun NoSide 0 (framework_of first.framework) first.solver.log now.solver.log now.solver.pending before
      after None
  pub steps : (own : ℕ) → GoesOnBySteps (framework_of first.framework) own [] first.solver.log now.solver.log

-- the axioms came, and no search was made yet
pub turned_first : (p t : FrameworkSolver) (units : Units) → IsWhole t → t.framework ≡ p.framework
    → AreInForce (framework_of t.framework) t.solver.log
    → HasRun NoSide 0 (framework_of p.framework) p.solver.log t.solver.log t.solver.pending units units None
    → ((own : ℕ) → GoesOnBySteps (framework_of p.framework) own [] p.solver.log t.solver.log)
    → HasTurned p t units units
turned_first p t units whole same force run steps = record {
  whole = whole;
  framework = same;
  in_force = subst (λ f. AreInForce f t.solver.log) (ap framework_of same) force;
  run = run;
  steps = steps;
}

module _ (first now next : FrameworkSolver) (before between after : Units) (turned : HasTurned first now before between)
    (framework : next.framework ≡ now.framework) where
  same_now : framework_of now.framework ≡ framework_of first.framework
  same_now = ap framework_of turned.framework

  -- one turn more, whatever it comes to
  pub turned_run : (most : ℕ) (halt : Option Halt)
      → HasRun NoSide most (framework_of now.framework) now.solver.log next.solver.log next.solver.pending between after
      halt
      → HasRun NoSide most (framework_of first.framework) first.solver.log next.solver.log next.solver.pending before
      after halt
  turned_run most halt run =
      run_joined NoSide NoSide NoSide 0 most most (framework_of first.framework) first.solver.log now.solver.log
      next.solver.log now.solver.pending next.solver.pending before between after halt (λ literals set h. h)
      (λ literals set h. h) (omega arith) turned.run
      (subst (λ f. HasRun NoSide most f now.solver.log next.solver.log next.solver.pending between after halt) same_now
      run)

  pub turned_steps : (halt : Option Halt)
      → UnlessMemory halt ((own : ℕ) → GoesOnBySteps (framework_of now.framework) own [] now.solver.log next.solver.log)
      → UnlessMemory halt
      ((own : ℕ) → GoesOnBySteps (framework_of first.framework) own [] first.solver.log next.solver.log)
  turned_steps halt steps =
      unless_then ((own : ℕ) → GoesOnBySteps (framework_of now.framework) own [] now.solver.log next.solver.log)
      ((own : ℕ) → GoesOnBySteps (framework_of first.framework) own [] first.solver.log next.solver.log)
      (λ then own. goes_on_joined (framework_of first.framework) own [] first.solver.log now.solver.log next.solver.log
      (turned.steps own) (subst (λ f. GoesOnBySteps f own [] now.solver.log next.solver.log) same_now (then own)))
      halt steps

  pub turned_more : IsWhole next
      → HasRun NoSide 0 (framework_of now.framework) now.solver.log next.solver.log next.solver.pending between after
      None
      → ((own : ℕ) → GoesOnBySteps (framework_of now.framework) own [] now.solver.log next.solver.log)
      → HasTurned first next before after
  turned_more whole run steps = record {
    whole = whole;
    framework = framework ∙ turned.framework;
    in_force = force_grown NoSide (framework_of first.framework) now.solver.log next.solver.log run.grows
        turned.in_force;
    run = turned_run 0 None run;
    steps = turned_steps None steps;
  }

  pub turned_found : (goals : List AtomLit) (found : Found)
      → IsFound (framework_of now.framework) next.solver.log goals found
      → IsFound (framework_of first.framework) next.solver.log goals found
  turned_found goals found is = subst (λ f. IsFound f next.solver.log goals found) same_now is

  -- a turn takes some of the room that is left
  pub room_left : IsWhole next
      → HasRun NoSide 0 (framework_of now.framework) now.solver.log next.solver.log next.solver.pending between after
      None
      → length now.solver.log.steps < length next.solver.log.steps
      → next.solver.log.limit - length next.solver.log.steps < now.solver.log.limit - length now.solver.log.steps
  room_left whole run more =
      let within = whole.guarded.form.within in
      let same = run.grows.limit in
      omega arith

pub turned_goals : (first now : FrameworkSolver) (before after : Units) (goals : List AtomLit)
    → HasTurned first now before after → AreGoals (framework_of first.framework) first.solver.log.sides goals
    → AreGoals (framework_of now.framework) now.solver.log.sides goals
turned_goals first now before after goals turned are =
    goals_still (framework_of first.framework) (framework_of now.framework) first.solver.log now.solver.log goals
    turned.run.grows (ap framework_of turned.framework) are

pub turned_force : (first now : FrameworkSolver) (before after : Units) → HasTurned first now before after
    → AreInForce (framework_of now.framework) now.solver.log
turned_force first now before after turned =
    subst (λ f. AreInForce f now.solver.log) (sym (ap framework_of turned.framework)) turned.in_force

-- ---- the clause in hand behind a call

pub run_settled : (P : Making) (most : ℕ) (f : Framework) (a b : OracleLog) (p : Option Pending) (u v : Units)
    (halt : Option Halt) → HasRun P most f a b p u v halt → HasRun P most f a b (in_hand_behind halt p) u v halt
run_settled P most f a b p u v None run =
    record { grows = run.grows; limit = run.limit; works = run.works; closing = run.closing; stop = tt }
run_settled P most f a b p u v (Some (Spent count)) run = run
run_settled P most f a b p u v (Some LogFull) run =
    record { grows = run.grows; limit = run.limit; works = run.works; closing = run.closing; stop = run.stop }
run_settled P most f a b p u v (Some Memory) run =
    record { grows = run.grows; limit = run.limit; works = run.works; closing = run.closing; stop = tt }

pub settled_in_hand : (log : OracleLog) (p : Option Pending) (halt : Option Halt) → EndsInHand halt log p
    → LoopInHand log (in_hand_behind halt p)
settled_in_hand log p None h = tt
settled_in_hand log p (Some (Spent count)) h = h
settled_in_hand log p (Some LogFull) h = tt
settled_in_hand log p (Some Memory) h = tt

pub not_out_of_memory : (halt : Option Halt) (out_of_memory : Bool) → out_of_memory_by halt out_of_memory ≡ false
    → out_of_memory ≡ false
not_out_of_memory None out_of_memory so = so
not_out_of_memory (Some (Spent count)) out_of_memory so = so
not_out_of_memory (Some LogFull) out_of_memory so = so
not_out_of_memory (Some Memory) out_of_memory so = absurd (false≢true (sym so))

pub without_memory : (P : Type 0) (halt : Option Halt) (out_of_memory : Bool)
    → out_of_memory_by halt out_of_memory ≡ false → UnlessMemory halt P
    → P
without_memory P None out_of_memory so h = h
without_memory P (Some (Spent count)) out_of_memory so h = h
without_memory P (Some LogFull) out_of_memory so h = h
without_memory P (Some Memory) out_of_memory so h = absurd (false≢true (sym so))

-- the same parts, but for the clause in hand
abbrev pub settled : FrameworkSolver → Option Halt → FrameworkSolver
settled p halt = record p { solver = record { log = p.solver.log; pending = in_hand_behind halt p.solver.pending } }

pub whole_settled : (p : FrameworkSolver) (halt : Option Halt) → IsWhole p → IsWhole (settled p halt)
whole_settled p halt whole = whole_with NoSide p (record {
  log = p.solver.log;
  pending = in_hand_behind halt p.solver.pending;
}) whole whole.guarded (grows_same NoSide p.solver.log)
