-- What the tests of an ending tell, where it has no word yet.
use Rattle.std.specs.Prelude.{◌≡◌, ◌↔◌, ◌-◌, ◌+◌, ◌<◌, ℕ, Bool, true, false, not, List, Contains, length, slice_index_or, IsTrue}
use Rattle.plain_lits.specs.HintCheck.{IsFalsified, IsUnit}
use Rattle.semantics.specs.Frameworks.{Framework}
use Rattle.meaning_atoms.specs.declared.atom.AtomLit.{AtomLit}
use Rattle.meaning_atoms.specs.Literals.{negated}
use Rattle.meaning_atoms.specs.Worlds.{IsFact}
use Rattle.af_axioms.specs.Facts.{IsFactValue}
use Rattle.oracle_face.specs.Logs.{LogStep, Reaches, by_side, hints_of, no_step, step_at}
use Rattle.core_logs.specs.declared.checking.Status.{Status}
use Rattle.core_logs.specs.declared.checking.Status.TheVariants.{Falsified, Unit as Single, Other}
use Rattle.core_logs.specs.Tests.{IsOther}
use Rattle.core_answers.specs.declared.rest.Move.{Move}
use Rattle.core_answers.specs.declared.rest.Move.TheVariants.{Conflict, Implied, Rest}

-- ---- literals

-- the literal is false, if it speaks of a fact
pub record IsFalseIfFact (f : Framework) (l : AtomLit) : Type 0 where
  pub is_false : IsFact f l.atom → IsFactValue f l.atom (not l.positive)

-- ---- marks

-- there is a mark for each step, and a step is marked exactly where it is so
pub record HasMarks (P : LogStep → Type 0) (steps : List LogStep) (marks : List Bool) : Type 0 where
  pub long : length marks ≡ length steps
  pub each : (k : ℕ) → k < length steps → IsTrue (slice_index_or marks k true) ↔ P (slice_index_or steps k no_step)

-- searches use the step
pub record IsWorking (step : LogStep) : Type 0 where
  pub works : step.closing ≡ false

-- the step's side clause, if it has one, is among the numbers
pub record IsOwn (own : List ℕ) (step : LogStep) : Type 0 where
  pub is : (n : ℕ) → step.source ≡ by_side n → Contains own n

-- ---- what a step reaches

-- the number names a marked step, or none
abbrev pub IsMarked : List Bool → ℕ → Type 0
IsMarked marks number = IsTrue (slice_index_or marks (number - 1) true)

-- each hint of the step does
abbrev pub HandsOn : List Bool → LogStep → Type 0
HandsOn marks step = (hint : ℕ) → Contains (hints_of step.source) hint → IsMarked marks hint

-- what each marked step's hints name is marked too
abbrev pub HandOn : List LogStep → List Bool → Type 0
HandOn steps marks =
    (k : ℕ) → k < length steps → IsTrue (slice_index_or marks k true) → HandsOn marks (slice_index_or steps k no_step)

-- the step is marked, and has a hint of one that isn't
pub record IsFault (steps : List LogStep) (marks : List Bool) (k : ℕ) : Type 0 where
  pub within : k < length steps
  pub marked : IsTrue (slice_index_or marks k true)
  pub fault : HandsOn marks (slice_index_or steps k no_step) → ⊥

-- the step of the number reaches no side clause but those of the numbers
abbrev pub ReachesOwn : List LogStep → List ℕ → ℕ → Type 0
ReachesOwn steps own number = (k n : ℕ) → Reaches steps number k → (step_at steps k).source ≡ by_side n → Contains own n

-- exactly the marked steps do
pub record ReachOwn (own : List ℕ) (steps : List LogStep) (marks : List Bool) : Type 0 where
  pub long : length marks ≡ length steps
  pub each : (k : ℕ) → k < length steps → IsTrue (slice_index_or marks k true) ↔ ReachesOwn steps own (k + 1)

-- ---- unit propagation

-- what the step's clause is under the literals that are true, if the step is marked
abbrev pub IsStatusAt : Bool → List AtomLit → LogStep → Status → Type 0
IsStatusAt mark truths step Falsified = IsTrue mark × IsFalsified negated truths step.clause
IsStatusAt mark truths step (Single unset) = IsTrue mark × IsUnit negated truths step.clause unset
IsStatusAt mark truths step Other = IsTrue mark → IsOther truths step.clause

-- the same of the step at an index
abbrev pub StatusAt : List LogStep → List Bool → List AtomLit → ℕ → Status → Type 0
StatusAt steps marks truths k status =
    IsStatusAt (slice_index_or marks k true) truths (slice_index_or steps k no_step) status

-- what propagation by the marked steps may do: the clause of one is false; that of one is unit; or neither is so of any
abbrev pub IsMove : List LogStep → List Bool → List AtomLit → Move → Type 0
IsMove steps marks truths (Conflict k) = (k < length steps) × StatusAt steps marks truths k Falsified
IsMove steps marks truths (Implied k unset) = (k < length steps) × StatusAt steps marks truths k (Single unset)
IsMove steps marks truths Rest = (k : ℕ) → k < length steps → StatusAt steps marks truths k Other
