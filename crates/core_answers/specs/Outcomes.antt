-- How an answer of the core ends.
use Rattle.std.specs.Prelude.{◌≡◌, ◌≤◌, ℕ, Option, length}
use Rattle.plain_lits.specs.Units.{Units}
use Rattle.semantics.specs.Frameworks.{Framework}
use Rattle.iccma_tasks.specs.Tasks.{Asked}
use Rattle.oracle_face.specs.declared.face.Pending.{Pending}
use Rattle.oracle_face.specs.Growing.{IsSpent}
use Rattle.oracle_face.specs.Logs.{OracleLog}
use Rattle.edit_rules.specs.Fitting.{Fits}
use Rattle.session_log.specs.Ends.{AreTooMany, Course, Ending, IsEnd, IsShownBy, LoopInHand, MadeFor, MayStop, definite}
use Rattle.session_log.specs.Ends.{log_full, refused, too_many, unknown}
use Rattle.core_machine.specs.Steps.{cut}
use Rattle.core_answers.specs.declared.outcome.Outcome.{Outcome}
use Rattle.core_answers.specs.declared.outcome.Outcome.TheVariants.{Definite, LogFull, Refused, TooMany, Unknown}
use Rattle.core_answers.specs.Serving.{HasServed}

-- the ending that an outcome is
abbrev pub ending_of : Outcome → Ending
ending_of (Refused fault) = refused fault
ending_of (Definite answer sets) = definite answer sets
ending_of (Unknown count) = unknown count
ending_of (TooMany sets) = too_many sets
ending_of LogFull = log_full

-- the course of a query by what its log has gained since it had so many steps
abbrev pub course_since : OracleLog → ℕ → ℕ → Option Pending → Units → Course
course_since log answered budget pending after = record {
  old = cut log answered;
  new = log;
  pending = pending;
  before = record { limit = budget; used = 0 };
  after = after;
}

-- a query may end with the outcome, with some number of units used
abbrev pub Comes : Framework → Asked → ℕ → OracleLog → ℕ → ℕ → Option Pending → Outcome → Type 0
Comes f asked most log answered budget pending outcome =
    (after : Units) × IsEnd f asked most (course_since log answered budget pending after) (ending_of outcome)

-- ---- where the query fits

-- what else there is to an outcome, where this many units were used
abbrev pub EndsSo : Framework → Asked → ℕ → OracleLog → Option Pending → Units → Outcome → Type 0
EndsSo f asked most log pending units (Refused fault) = ⊥
EndsSo f asked most log pending units (Definite answer sets) = IsShownBy f asked answer sets log
EndsSo f asked most log pending units (Unknown count) =
    IsSpent (MadeFor f asked) f log pending units count × MayStop asked × LoopInHand log pending
EndsSo f asked most log pending units (TooMany sets) = AreTooMany f asked most log sets
EndsSo f asked most log pending units LogFull = (length log.steps ≡ log.limit) × MayStop asked

-- the query fits, what came behind so many steps serves it within the budget, and the rest is so
pub record EndsFit (f : Framework) (asked : Asked) (most : ℕ) (log : OracleLog) (from : ℕ) (pending : Option Pending)
    (units : Units) (outcome : Outcome) : Type 0 where
  pub fits : Fits f asked
  pub served : HasServed f asked log from
  pub within : units.used ≤ units.limit
  pub so : EndsSo f asked most log pending units outcome
