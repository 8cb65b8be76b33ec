-- What a search under goals tells.
use Rattle.std.specs.Prelude.{◌⊎◌, ℕ, List, Contains, Option, None, Some, Result, Ok, Err}
use Rattle.plain_lits.specs.declared.halt.Halt.{Halt}
use Rattle.plain_lits.specs.declared.halt.Halt.TheVariants.{Memory}
use Rattle.plain_lits.specs.HintCheck.{IsTautology}
use Rattle.plain_lits.specs.Units.{Units}
use Rattle.lists.specs.declared.memory.Memory.{Memory as OutOfMemory}
use Rattle.semantics.specs.Frameworks.{Framework}
use Rattle.meaning_atoms.specs.declared.atom.AtomLit.{AtomLit}
use Rattle.meaning_atoms.specs.Literals.{negated}
use Rattle.meaning_atoms.specs.Worlds.{IsFact}
use Rattle.af_axioms.specs.Facts.{IsFactValue}
use Rattle.oracle_face.specs.Logs.{OracleLog, working}
use Rattle.oracle_face.specs.declared.face.Pending.{Pending}
use Rattle.oracle_face.specs.Goals.{RefutesGoals}
use Rattle.oracle_face.specs.Growing.{HasRun, NoSide}
use Rattle.atom_solver.specs.declared.searched.Searched.{Searched}
use Rattle.atom_solver.specs.declared.searched.Searched.TheVariants.{Model, Refuted}

-- literals under which each clause in use and each goal is true: none stands beside its negation, what they say of facts
-- is so, and of each literal of a clause in use they say whether it is true
pub record Satisfies (f : Framework) (log : OracleLog) (goals values : List AtomLit) : Type 0 where
  pub plain : IsTautology negated values → ⊥
  pub met : (l : AtomLit) → Contains goals l → Contains values l
  pub clauses : (clause : List AtomLit) → Contains (working log.steps) clause
      → (l : AtomLit) × Contains clause l × Contains values l
  pub facts : (l : AtomLit) → Contains values l → IsFact f l.atom → IsFactValue f l.atom l.positive
  pub told : (clause : List AtomLit) (l : AtomLit) → Contains (working log.steps) clause → Contains clause l
      → Contains values l ⊎ Contains values (negated l)

-- what a search found: such literals, or a step that refutes the goals
abbrev pub IsAnswer : Framework → OracleLog → List AtomLit → Searched → Type 0
IsAnswer f log goals (Model values) = Satisfies f log goals values
IsAnswer f log goals (Refuted step) = RefutesGoals f log goals step

-- how many steps a search logs that only end it: one where the goals are refuted, and else none
abbrev pub ends_in : Result Searched Halt → ℕ
ends_in (Ok (Refuted step)) = 1
ends_in _ = 0

-- no goal is a fact
pub record AreUnfixed (f : Framework) (goals : List AtomLit) : Type 0 where
  pub each : (l : AtomLit) → Contains goals l → IsFact f l.atom → ⊥

-- a look for a step that refutes goals spends nothing, and logs one step at most
abbrev pub HasLooked : Framework → OracleLog → OracleLog → Option Pending → Units → Result (Option ℕ) OutOfMemory
    → Type 0
HasLooked f old new pending units (Ok found) = HasRun NoSide 1 f old new pending units units None
HasLooked f old new pending units (Err refused) = (most : ℕ) → HasRun NoSide most f old new pending units units (Some Memory)
