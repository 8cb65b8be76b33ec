-- What a session's replies say.
use Rattle.std.specs.Prelude.{◌≡◌, ℕ, ◌+◌, ◌*◌, ◌<◌, ◌≤◌, Bool, true, List, length, take, Option, Some, None, Err}
use Rattle.std.specs.Prelude.{if◌then◌else◌}
use Rattle.plain_lits.specs.declared.halt.Halt.{Halt}
use Rattle.plain_lits.specs.declared.halt.Halt.TheVariants.{Spent, LogFull as OfLogFull}
use Rattle.plain_lits.specs.Units.{Units}
use Rattle.semantics.specs.Frameworks.{Framework}
use Rattle.iccma_tasks.specs.Tasks.{Asked}
use Rattle.edit_rules.specs.declared.edit.Edit.{Edit}
use Rattle.edit_rules.specs.declared.effect.EditFault.{EditFault}
use Rattle.edit_rules.specs.Fitting.{Fits, IsFaultOf}
use Rattle.edit_rules.specs.Groups.{group_told}
use Rattle.edit_history.specs.declared.entry.HistoryEntry.{HistoryEntry}
use Rattle.edit_history.specs.Entries.{edit_count, framework_after}
use Rattle.edit_history.specs.Hubs.{GainsOthers, IsCommitted}
use Rattle.oracle_face.specs.declared.entry.Entry.{Entry as PoolEntry}
use Rattle.oracle_face.specs.declared.face.Pending.{Pending}
use Rattle.oracle_face.specs.Growing.{Grows, HasRun}
use Rattle.oracle_face.specs.Logs.{OracleLog}
use Rattle.session_log.specs.Ends.{IsShownBy as IsShownByLog, LoopInHand, MadeFor, is_by_grounded}
use Rattle.oracle_core.specs.certificate_making.specs.Cuts.{AreCut}
use Rattle.oracle_core.specs.query_answers.specs.Answers.{AreTooMany}
use Rattle.oracle_core.specs.Answering.{NeedsSearch}
use Rattle.oracle_core.specs.Answers.{IsShownBy}
use Rattle.framework_solver.specs.Stepping.{GoesOnBySteps}
use Rattle.oracle_core.specs.Trading.{AnySide}
use Rattle.session_replies.specs.declared.reply.Body.{Body}
use Rattle.session_replies.specs.declared.reply.Body.TheVariants.{Done, EditRefused, Full}
use Rattle.session_replies.specs.declared.reply.Body.TheVariants.{Answered, QueryRefused, Unknown, TooMany, LogFull}
use Rattle.session_replies.specs.declared.reply.Reply.{Reply}
use Rattle.semantics.specs.declared.limits.TheConstants.{MAX_EXTENSIONS}
use Rattle.session_core.specs.declared.kept.KeptAnswer.{KeptAnswer}

-- ---- edits

-- the place that a reply tells: the edit's in its group, or 0 for an edit that is written without a group
abbrev pub place_told : Bool → ℕ → ℕ
place_told grouped place = if grouped then place else 0

-- the group is refused on the framework, and the reply tells the place of its first edit that is
pub record IsRefusal (grouped : Bool) (f : Framework) (edits : List Edit) (told : ℕ) (fault : EditFault) : Type 0 where
  pub place : ℕ
  pub refused : group_told f edits ≡ Err (place, fault)
  pub is_told : told ≡ place_told grouped place

-- what the reply to a session's edits says, where the history was so before and is so now: the group was taken on the
-- framework after all others, and is the last entry; or else only other sessions added to it, and the framework after
-- all of it refuses the group, or it has no room for it
abbrev pub EditSays : Bool → ℕ → Framework → ℕ → List Edit → List HistoryEntry → List HistoryEntry → Body → Type 0
EditSays grouped limit f session edits before now (Done effects) =
    IsCommitted limit f session edits before now effects
EditSays grouped limit f session edits before now (EditRefused told fault) =
    GainsOthers session before now
    × (edit_count now + length edits ≤ limit)
    × IsRefusal grouped (framework_after f now) edits told fault
EditSays grouped limit f session edits before now Full =
    GainsOthers session before now × (limit < edit_count now + length edits)
EditSays grouped limit f session edits before now body = ⊥

-- the reply says so, of the whole history
pub record IsEditReply (grouped : Bool) (limit : ℕ) (f : Framework) (session : ℕ) (edits : List Edit)
    (before now : List HistoryEntry) (reply : Reply) : Type 0 where
  pub front : reply.front ≡ length now
  pub says : EditSays grouped limit f session edits before now reply.body

-- ---- queries

-- so many units of so many are used
abbrev pub units_used : ℕ → ℕ → Units
units_used limit used = record { limit = limit; used = used }

-- the halt that a reply tells
abbrev pub halt_told : Body → Option Halt
halt_told (Unknown count) = Some (Spent count)
halt_told LogFull = Some OfLogFull
halt_told body = None

-- what the reply to a query says of the framework, beside the log behind it: the answer is right, and its certificate
-- is accepted and cut out of the log; the query has this fault; the log shows too many extensions; or a search was
-- halted
abbrev pub QuerySays : Framework → Asked → OracleLog → Body → Type 0
QuerySays f asked log (Answered answer certificate) =
    Fits f asked
    × IsShownBy f asked answer certificate
    × AreCut log certificate.refutations
QuerySays f asked log (QueryRefused fault) = IsFaultOf f asked fault
QuerySays f asked log (Unknown count) = NeedsSearch f asked
QuerySays f asked log TooMany = NeedsSearch f asked × AreTooMany f asked MAX_EXTENSIONS log
QuerySays f asked log LogFull = NeedsSearch f asked
QuerySays f asked log body = ⊥

-- a query about the framework, with so many units for it, has this reply, beside the logs before it and behind it: what
-- was added serves the query, and its units are counted; where they were spent, the further clause is kept; where the
-- log is full, it has as many steps as it may. A query that the grounded set answers adds nothing.
pub record IsReplied (f : Framework) (asked : Asked) (limit : ℕ) (old new : OracleLog) (pending : Option Pending)
    (used : ℕ) (body : Body) : Type 0 where
  pub says : QuerySays f asked new body
  pub within : used ≤ limit
  pub run : HasRun (MadeFor f asked) (2 * length new.sides + 2) f old new pending (units_used limit 0)
      (units_used limit used) (halt_told body)
  pub by_grounded : is_by_grounded asked.task.problem asked.task.semantics ≡ true → new ≡ old

-- a clause is kept only where a budget was spent
abbrev pub Keeps : Body → Option Pending → Type 0
Keeps (Unknown count) pending = Unit {0}
Keeps body pending = pending ≡ None

-- what is kept of a query with this reply: how long the log was before it and behind it, and the clause in hand
pub record IsKeptOf (old new : OracleLog) (body : Body) (kept : KeptAnswer) : Type 0 where
  pub before : kept.before ≡ length old.steps
  pub after : kept.after ≡ length new.steps
  pub pending : Keeps body kept.pending

-- the reply to a query can be read off a log that may have grown since: the log before the query and the one behind it
-- are beginnings of it, as long as what is kept of the query says
pub record IsReadable (f : Framework) (asked : Asked) (limit : ℕ) (log : OracleLog) (kept : KeptAnswer) (body : Body)
    : Type 0 where
  pub old : OracleLog
  pub new : OracleLog
  pub used : ℕ
  pub replied : IsReplied f asked limit old new kept.pending used body
  pub kept_is : IsKeptOf old new body kept
  pub first : old.steps ≡ take kept.before log.steps
  pub last : new.steps ≡ take kept.after log.steps
  pub since : Grows AnySide new log

-- steps of the log show the answer that the reply gives
abbrev pub IsShownIn : Framework → Asked → OracleLog → Body → Type 0
IsShownIn f asked log (Answered answer certificate) = IsShownByLog f asked answer certificate.sets log
IsShownIn f asked log body = Unit {0}

-- what was added for a query with this reply is steps of the session of the number `own` on this framework, where its
-- trade gave these entries, and each loop clause among them was taken by no hints when it came; so is a loop clause in
-- hand; and the log shows the answer
pub record IsBySteps (f : Framework) (own : ℕ) (given : List PoolEntry) (asked : Asked) (old new : OracleLog)
    (pending : Option Pending) (body : Body) : Type 0 where
  pub goes_on : GoesOnBySteps f own given old new
  pub in_hand : LoopInHand new pending
  pub shown : IsShownIn f asked new body
