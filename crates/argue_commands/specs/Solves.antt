-- The session of the query in a run's words.
use Rattle.std.specs.Prelude.{◌≡◌, ◌≢◌, ℕ, ◌+◌, ◌*◌, ◌≤◌, [], length, Result, Ok, Err}
use Rattle.argue_outside.specs.Outside.{KnownFile}
use Rattle.plain_lits.specs.Units.{Units}
use Rattle.semantics.specs.Frameworks.{Framework}
use Rattle.edit_rules.specs.Fitting.{Fits}
use Rattle.oracle_face.specs.Growing.{HasRun}
use Rattle.oracle_face.specs.Logs.{OracleLog}
use Rattle.session_log.specs.Ends.{LoopInHand, MadeFor}
use Rattle.atom_solver.specs.States.{empty_log}
use Rattle.oracle_core.specs.Answering.{IsCause, halt_behind}
use Rattle.oracle_core.specs.Answers.{IsShownBy}
use Rattle.framework_solver.specs.Stepping.{GoesOnBySteps}
use Rattle.oracle_core.specs.declared.reply.AnswerStop.{AnswerStop}
use Rattle.oracle_core.specs.declared.reply.AnswerStop.TheVariants as stop
use Rattle.oracle_core.specs.declared.reply.Answered.{Answered}
use Rattle.argue_commands.specs.Inputs.{IsFrameworkOf}
use Rattle.argue_commands.specs.declared.ended.KeptSession.{KeptSession}
use Rattle.argue_commands.specs.declared.ended.Limit.TheVariants as limit
use Rattle.argue_commands.specs.declared.ended.Refusal.TheVariants.{Query}
use Rattle.argue_commands.specs.declared.ended.Status.{Status}
use Rattle.argue_commands.specs.declared.ended.Status.TheVariants.{Done, InputRefused, Limit, Unknown, WantOfMemory}
use Rattle.argue_commands.specs.declared.query.Solving.{Solving}
use Rattle.argue_commands.specs.declared.query.TheConstants.{LOG_LIMIT}
use Rattle.semantics.specs.declared.limits.TheConstants.{MAX_EXTENSIONS}

-- the query fits the framework, and this is a right answer to it, with a certificate that is accepted, by no more units
-- than its budget
pub record IsReplyTo (f : Framework) (solving : Solving) (reply : Answered) : Type 0 where
  pub fits : Fits f solving.query
  pub shown : IsShownBy f solving.query reply.answer reply.certificate
  pub within : reply.units ≤ solving.budget

-- the units of a budget of which nothing is used
abbrev pub unspent : ℕ → Units
unspent limit = record { limit = limit; used = 0 }

-- the query was answered by these units; or it has the fault or the cause that says why it has no answer, beside the log
-- behind it
abbrev pub Replies : Framework → Solving → OracleLog → ℕ → Result Answered AnswerStop → Type 0
Replies f solving log used (Ok reply) = IsReplyTo f solving reply × (reply.units ≡ used)
Replies f solving log used (Err why) = IsCause f solving.query MAX_EXTENSIONS log why

-- a session of this query alone on the framework: its engine began with no step, and unless memory was refused its log
-- went on by steps of the session for which nothing was given, so that no axiom came, but loop clauses, that the
-- framework doesn't need, and no clause from elsewhere; each unit that its log has was a clause that was new when it
-- came, and the budget counts them; and the reply is so. Where the budget was spent, the units are as many as it has,
-- and the further clause is kept, which is no loop clause that hints already take; where the log is full, it has as many
-- steps as it may.
pub record IsSessionOf (f : Framework) (solving : Solving) (session : KeptSession) : Type 0 where
  pub framework : session.engine.framework ≡ f
  pub after : Units
  pub run : HasRun (MadeFor f solving.query) (2 * length session.engine.log.sides + 2) f (empty_log LOG_LIMIT)
      session.engine.log session.engine.pending (unspent solving.budget) after (halt_behind session.reply)
  pub steps : session.reply ≢ Err stop.Memory
      → GoesOnBySteps f session.engine.number [] (empty_log LOG_LIMIT) session.engine.log
  pub in_hand : (count : ℕ) → session.reply ≡ Err (stop.Spent count)
      → LoopInHand session.engine.log session.engine.pending
  pub replies : Replies f solving session.engine.log after.used session.reply

-- the same on the framework that the file's bytes read as
pub record IsSessionOn (known : KnownFile) (solving : Solving) (session : KeptSession) : Type 0 where
  pub framework : Framework
  pub of_framework : IsFrameworkOf known framework
  pub is : IsSessionOf framework solving session

-- the status of a run whose query has no answer for this reason
abbrev pub status_after : AnswerStop → Status
status_after (stop.Query fault) = InputRefused (Query fault)
status_after (stop.Spent count) = Unknown
status_after stop.TooMany = Limit limit.Extensions
status_after stop.LogFull = Limit limit.Log
status_after stop.Memory = WantOfMemory

-- the status of a run whose query had this reply
abbrev pub status_of : Result Answered AnswerStop → Status
status_of (Ok reply) = Done
status_of (Err why) = status_after why
