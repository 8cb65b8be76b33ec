-- What serves a query of what has come into a log since its session's last answer.
use Rattle.std.specs.Prelude.{◌≡◌, ◌+◌, ◌*◌, ◌<◌, ◌≤◌, ℕ, Bool, true, List, Contains, length, take, drop, count_by, slice_index_or, Option, Some}
use Rattle.plain_lits.specs.declared.halt.Halt.{Halt}
use Rattle.plain_lits.specs.declared.halt.Halt.TheVariants.{Memory}
use Rattle.semantics.specs.Frameworks.{Framework}
use Rattle.meaning_atoms.specs.declared.atom.AtomLit.{AtomLit}
use Rattle.meaning_atoms.specs.declared.axiom.AxiomName.{AxiomName}
use Rattle.meaning_atoms.specs.AxiomNames.{IsAxiomName}
use Rattle.iccma_tasks.specs.Tasks.{Asked}
use Rattle.certificate_claims.specs.Refutations.{axiom_clause}
use Rattle.oracle_face.specs.declared.face.Pending.{Pending}
use Rattle.oracle_face.specs.declared.face.Pending.TheVariants.{Loop}
use Rattle.oracle_face.specs.Logs.{LogStep, OracleLog, SideClause, Source, IsNew, IsSameClause, by_axiom, is_loop, is_unit, no_side, no_step, working}
use Rattle.session_log.specs.Ends.{IsTakenByNone, SideServes}
use Rattle.core_machine.specs.Steps.{is_side_step}
use Rattle.answer_claims.specs.declared.sides.SideKind.{SideKind}
use Rattle.answer_claims.specs.SideClauses.{side_of}
use Rattle.core_answers.specs.declared.counts.Count.{Count}
use Rattle.core_answers.specs.declared.counts.Count.TheVariants.{Sides, Closings, Units}
use Rattle.core_answers.specs.Parts.{IsFalseIfFact}

-- ---- counts

-- whether a step is counted
abbrev pub counts : Count → LogStep → Bool
counts Sides step = is_side_step step
counts Closings step = step.closing
counts Units step = is_unit step

-- ---- names

-- the arguments of the name of a loop clause in hand fit its row
abbrev pub IsNamedInHand : Option Pending → Type 0
IsNamedInHand (Some (Loop name)) = IsAxiomName name
IsNamedInHand pending = Unit {0}

-- ---- steps

-- the clause is new to what searches use, and what it says of facts is false
pub record IsFresh (f : Framework) (before : List LogStep) (clause : List AtomLit) : Type 0 where
  pub new : IsNew (working before) clause
  pub facts : (l : AtomLit) → Contains clause l → IsFalseIfFact f l

-- if a step comes from a loop clause, no hints took that when it came
abbrev pub LoopServes : List LogStep → Source → Type 0
LoopServes before (by_axiom name) = is_loop name ≡ true → IsTakenByNone before (axiom_clause name)
LoopServes before source = Unit {0}

-- a step behind others serves a query: as a unit it is fresh, and as a loop clause it was called for
pub record StepServes (f : Framework) (before : List LogStep) (step : LogStep) : Type 0 where
  pub unit : is_unit step ≡ true → IsFresh f before step.clause
  pub loop : LoopServes before step.source

-- each step from an index on does
abbrev pub StepsServe : Framework → List LogStep → ℕ → Type 0
StepsServe f steps from =
    (k : ℕ) → from ≤ k → k < length steps → StepServes f (take k steps) (slice_index_or steps k no_step)

-- ---- side clauses

-- one of these kinds of side clauses of the set has the literals
pub record IsMadeAs (f : Framework) (kinds : List SideKind) (literals : List AtomLit) (set : List ℕ) : Type 0 where
  pub kind : SideKind
  pub listed : Contains kinds kind
  pub same : IsSameClause literals (side_of f kind set)

-- each side clause from an index on serves the query
abbrev pub SidesServe : Framework → Asked → List SideClause → ℕ → Type 0
SidesServe f asked sides from =
    (k : ℕ) → from ≤ k → k < length sides
    → SideServes f asked (slice_index_or sides k no_side).literals (slice_index_or sides k no_side).set

-- ---- all that came

-- what came behind so many steps serves the query, with no more steps that only ended a search than there may be
pub record HasServed (f : Framework) (asked : Asked) (log : OracleLog) (from : ℕ) : Type 0 where
  pub sides : SidesServe f asked log.sides (count_by is_side_step (take from log.steps))
  pub steps : StepsServe f log.steps from
  pub closing : count_by (counts Closings) (drop from log.steps) ≤ 2 * length log.sides + 2

-- the halt isn't want of memory
abbrev pub IsTold : Option Halt → Type 0
IsTold (Some Memory) = ⊥
IsTold halt = Unit {0}

-- ---- a clause in hand

-- the side clause has other literals
pub record IsOtherSide (literals : List AtomLit) (side : SideClause) : Type 0 where
  pub other : IsSameClause side.literals literals → ⊥
