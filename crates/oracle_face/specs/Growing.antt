-- How an oracle's log grows, what a call spends, and why it stops.
use Rattle.std.specs.Prelude.{◌≡◌, ◌≢◌, ℕ, ◌+◌, ◌<◌, ◌≤◌, true, List, ◌++◌, length, Contains, slice_index_or}
use Rattle.std.specs.Prelude.{Option, None, Some, Result, Ok, Err, take}
use Rattle.plain_lits.specs.declared.halt.Halt.{Halt}
use Rattle.plain_lits.specs.declared.halt.Halt.TheVariants.{Spent, LogFull, Memory}
use Rattle.plain_lits.specs.HintCheck.{Checks}
use Rattle.plain_lits.specs.Units.{Units}
use Rattle.certificate_claims.specs.semantics.specs.Frameworks.{Framework}
use Rattle.certificate_claims.specs.meaning_atoms.specs.declared.atom.AtomLit.{AtomLit}
use Rattle.certificate_claims.specs.meaning_atoms.specs.Literals.{negated}
use Rattle.certificate_claims.specs.Refutations.{IsAxiomOf, axiom_clause}
use Rattle.oracle_face.specs.declared.face.Found.{Found}
use Rattle.oracle_face.specs.declared.face.Found.TheVariants.{Set, Refuted}
use Rattle.oracle_face.specs.declared.face.Pending.{Pending}
use Rattle.oracle_face.specs.declared.face.Pending.TheVariants.{Side, Learned, Loop}
use Rattle.oracle_face.specs.Logs.{by_side, OracleLog, LogStep, SideClause, IsNumberOf, IsSameClause, IsNew, FactsAreFalse, working, clauses_of, no_step, no_side, side_at, step_at, is_loop, is_unit, units_of, closings_of}
use Rattle.oracle_face.specs.Goals.{MakesTrue, RefutesGoals}

-- what side clauses a call may keep, each with the set that it is made from
abbrev pub Making : Type 1
Making = List AtomLit → List ℕ → Type 0

-- no side clause
abbrev pub NoSide : Making
NoSide literals set = ⊥

-- the side clause with these literals, made from this set
abbrev pub OnlySide : List AtomLit → List ℕ → Making
OnlySide side from literals set = IsSameClause literals side × (set ≡ from)

-- the log keeps all that it has and gains steps, and side clauses of the kind that the call makes
pub record Grows (P : Making) (old new : OracleLog) : Type 0 where
  pub limit : new.limit ≡ old.limit
  pub more_steps : (more : List LogStep) × (new.steps ≡ old.steps ++ more)
  pub more_sides : (more : List SideClause) × (new.sides ≡ old.sides ++ more)
  pub made : (k : ℕ) → length old.sides ≤ k → k < length new.sides
      → P (slice_index_or new.sides k no_side).literals (slice_index_or new.sides k no_side).set

-- the steps gained that are units are new to what searches used before them and speak of no fact but as false, and the
-- budget counts them
pub record Works (f : Framework) (old new : OracleLog) (before after : Units) : Type 0 where
  pub fresh : (k : ℕ) → length old.steps ≤ k → k < length new.steps
      → is_unit (slice_index_or new.steps k no_step) ≡ true
      → IsNew (working (take k new.steps)) (slice_index_or new.steps k no_step).clause
  pub facts : (k : ℕ) → length old.steps ≤ k → k < length new.steps
      → is_unit (slice_index_or new.steps k no_step) ≡ true
      → FactsAreFalse f (slice_index_or new.steps k no_step).clause
  pub counted : units_of new + before.used ≡ units_of old + after.used

-- ---- what a call tells

-- what a search found: a set that makes the goals true, or a step that refutes them
abbrev pub IsFound : Framework → OracleLog → List AtomLit → Found → Type 0
IsFound f log goals (Set set) = MakesTrue f log goals set
IsFound f log goals (Refuted step) = RefutesGoals f log goals step

-- how many steps a search logs that only end it: one where the goals are refuted, and else none
abbrev pub closes : Result Found Halt → ℕ
closes (Ok (Refuted step)) = 1
closes _ = 0

-- the log has the side clause under this number: it was there, or it is new and made from the set
pub record Obliges (side : List AtomLit) (old new : OracleLog) (number : ℕ) : Type 0 where
  pub named : IsNumberOf new.sides number
  pub same : IsSameClause (side_at new.sides number).literals side
  pub stepped : (k : ℕ) × IsNumberOf new.steps k × ((step_at new.steps k).source ≡ by_side number)
  pub there : (n : ℕ) → IsNumberOf old.sides n → IsSameClause (side_at old.sides n).literals side → new ≡ old

-- ---- why a call stops

-- a further clause that would be a unit: a side clause of the kind that the call makes, which no other has the literals
-- of; a clause that the hint check takes; or a loop clause
abbrev pub IsFurther : Making → Framework → OracleLog → Pending → Type 0
IsFurther P f log (Side literals set) =
    P literals set
    × ((n : ℕ) → IsNumberOf log.sides n → IsSameClause (side_at log.sides n).literals literals → ⊥)
IsFurther P f log (Learned clause hints) =
    IsNew (working log.steps) clause
    × FactsAreFalse f clause
    × Checks negated (clauses_of log.steps) clause hints (Ok (length hints))
    × ((hint : ℕ) → Contains hints hint → (step_at log.steps hint).closing ≢ true)
IsFurther P f log (Loop name) =
    IsNew (working log.steps) (axiom_clause name)
    × FactsAreFalse f (axiom_clause name)
    × IsAxiomOf f name
    × (is_loop name ≡ true)

-- the budget was spent at this number of units, and a further clause is kept
pub record IsSpent (P : Making) (f : Framework) (log : OracleLog) (pending : Option Pending) (budget : Units)
    (count : ℕ) : Type 0 where
  pub is_limit : count ≡ budget.limit
  pub is_used : count ≡ budget.used
  pub in_hand : Pending
  pub kept : pending ≡ Some in_hand
  pub further : IsFurther P f log in_hand

-- why a call stopped; want of memory has no cause that contracts see
abbrev pub IsStop : Making → Framework → OracleLog → Option Pending → Units → Option Halt → Type 0
IsStop P f log pending budget None = Unit {0}
IsStop P f log pending budget (Some (Spent count)) = IsSpent P f log pending budget count
IsStop P f log pending budget (Some LogFull) = length log.steps ≡ log.limit
IsStop P f log pending budget (Some Memory) = Unit {0}

-- ---- a call

-- the halt that a call answered, if it did
abbrev pub halt_of : {T : Type 0} → Result T Halt → Option Halt
halt_of (Ok value) = None
halt_of (Err halt) = Some halt

-- what holds unless memory was refused
abbrev pub UnlessMemory : Option Halt → Type 0 → Type 0
UnlessMemory (Some Memory) P = Unit {0}
UnlessMemory _ P = P

-- what a call leaves, whatever it answers: the log has grown; the budget counts the units gained; so many steps at most
-- were gained that only ended a search; and a halt has its cause. After want of memory steps may have come that no
-- budget counts.
pub record HasRun (P : Making) (most : ℕ) (f : Framework) (old new : OracleLog) (pending : Option Pending)
    (before after : Units) (halt : Option Halt) : Type 0 where
  pub grows : Grows P old new
  pub limit : after.limit ≡ before.limit
  pub works : UnlessMemory halt (Works f old new before after)
  pub closing : UnlessMemory halt (closings_of new ≤ closings_of old + most)
  pub stop : IsStop P f new pending after halt
