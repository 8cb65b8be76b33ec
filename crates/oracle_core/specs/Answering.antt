-- How a query may end.
use Rattle.std.specs.Prelude.{◌≡◌, ℕ, false, Option, Some, None, Result, Ok, Err}
use Rattle.plain_lits.specs.declared.halt.Halt.{Halt}
use Rattle.plain_lits.specs.declared.halt.Halt.TheVariants.{Spent as OfSpent, LogFull as OfLogFull, Memory as OfMemory}
use Rattle.semantics.specs.Frameworks.{Framework}
use Rattle.iccma_tasks.specs.Tasks.{Asked}
use Rattle.edit_rules.specs.Fitting.{Fits, IsFaultOf}
use Rattle.oracle_face.specs.Logs.{OracleLog}
use Rattle.session_log.specs.Ends.{is_by_grounded}
use Rattle.query_answers.specs.Answers.{AreTooMany}
use Rattle.oracle_core.specs.declared.reply.Answered.{Answered}
use Rattle.oracle_core.specs.declared.reply.AnswerStop.{AnswerStop}
use Rattle.oracle_core.specs.declared.reply.AnswerStop.TheVariants.{Query, Spent, TooMany, LogFull, Memory}

-- the stop that a halt comes to
abbrev pub stop_of : Halt → AnswerStop
stop_of (OfSpent count) = Spent count
stop_of OfLogFull = LogFull
stop_of OfMemory = Memory

-- the halt that stopped a query, if one did
abbrev pub halt_behind : Result Answered AnswerStop → Option Halt
halt_behind (Ok answered) = None
halt_behind (Err (Query fault)) = None
halt_behind (Err (Spent count)) = Some (OfSpent count)
halt_behind (Err TooMany) = None
halt_behind (Err LogFull) = Some OfLogFull
halt_behind (Err Memory) = Some OfMemory

-- the query fits the framework, and needs a search
abbrev pub NeedsSearch : Framework → Asked → Type 0
NeedsSearch f asked = Fits f asked × (is_by_grounded asked.task.problem asked.task.semantics ≡ false)

-- why there is no answer: the query has a fault, or else it fits, and a search was halted, the log behind it shows more
-- extensions than so many, or memory was refused
abbrev pub IsCause : Framework → Asked → ℕ → OracleLog → AnswerStop → Type 0
IsCause f asked most log (Query fault) = IsFaultOf f asked fault
IsCause f asked most log (Spent count) = NeedsSearch f asked
IsCause f asked most log TooMany = NeedsSearch f asked × AreTooMany f asked most log
IsCause f asked most log LogFull = NeedsSearch f asked
IsCause f asked most log Memory = Fits f asked
