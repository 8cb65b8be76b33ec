-- How the log of a solver goes on while it works on a query.
use Rattle.std.specs.Prelude.{◌≡◌, ◌⊎◌, ◌<◌, ℕ, Bool, true, List, length, slice_index_or, Option, Some, None}
use Rattle.plain_lits.specs.declared.halt.Halt.{Halt}
use Rattle.plain_lits.specs.declared.halt.Halt.TheVariants.{Spent, Memory}
use Rattle.semantics.specs.Frameworks.{Framework}
use Rattle.meaning_atoms.specs.declared.axiom.AxiomName.{AxiomName}
use Rattle.oracle_face.specs.declared.entry.Entry.{Entry}
use Rattle.oracle_face.specs.declared.face.Pending.{Pending}
use Rattle.oracle_face.specs.Logs.{OracleLog, LogStep, IsNumberOf, by_axiom, step_at}
use Rattle.session_log.specs.Ends.{LoopInHand, LoopsServe}
use Rattle.session_log.specs.OwnSteps.{OwnSteps}

-- the log went on by steps of the session of the number `own` on this framework, where a trade gave these entries, and
-- each loop clause among them was taken by no hints when it came
pub record GoesOnBySteps (f : Framework) (own : ℕ) (given : List Entry) (old new : OracleLog) : Type 0 where
  pub steps : OwnSteps f own given old new
  pub loops : LoopsServe old new

-- ---- the clause in hand

-- where the budget was spent, a loop clause in hand is taken by no hints
abbrev pub EndsInHand : Option Halt → OracleLog → Option Pending → Type 0
EndsInHand (Some (Spent count)) log pending = LoopInHand log pending
EndsInHand halt log pending = Unit {0}

-- behind a call that ended so a clause is in hand only where the budget was spent
abbrev pub in_hand_behind : Option Halt → Option Pending → Option Pending
in_hand_behind (Some (Spent count)) pending = pending
in_hand_behind halt pending = None

-- ---- want of memory

-- the flag is raised where memory was refused
abbrev pub out_of_memory_by : Option Halt → Bool → Bool
out_of_memory_by (Some Memory) out_of_memory = true
out_of_memory_by halt out_of_memory = out_of_memory

-- ---- axioms that come by a list

-- each axiom among the steps is one of the first so many that are listed
pub record AreListed (steps : List LogStep) (names : List AxiomName) (count : ℕ) : Type 0 where
  pub each : (number : ℕ) (name : AxiomName) → IsNumberOf steps number → (step_at steps number).source ≡ by_axiom name
      → (k : ℕ) × (k < count) × (k < length names) × (slice_index_or names k name ≡ name)
