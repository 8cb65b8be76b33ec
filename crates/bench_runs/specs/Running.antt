-- A session of a script on its way through its lines.
use Rattle.std.specs.Prelude.{◌≡◌, ℕ, ◌≤◌, false, List, ◌++◌, length, Contains}
use mathlib.Core.List.{IsPrefix}
use Rattle.turn_lock.specs.Seats.{number_of}
use Rattle.turn_lock.specs.Turns.{entries_of}
use Rattle.edit_history.specs.declared.entry.HistoryEntry.{HistoryEntry}
use Rattle.edit_history.specs.declared.hub.Hub.{Hub}
use Rattle.edit_history.specs.Entries.{session_of}
use Rattle.edit_history.specs.Hubs.{IsSeatAt, limit_of, start_of}
use Rattle.session_core.specs.oracle_core.specs.Trading.{AnySide}
use Rattle.oracle_face.specs.Growing.{Grows}
use Rattle.oracle_face.specs.Logs.{OracleLog}
use Rattle.clause_pool.specs.declared.pool.Pool.{Pool}
use Rattle.clause_pool.specs.Pools.{AreInRow}
use Rattle.script_text.specs.declared.script.ScriptCommand.{ScriptCommand}
use Rattle.script_text.specs.declared.script.ScriptLine.{ScriptLine}
use Rattle.session_core.specs.declared.kept.KeptAnswer.{KeptAnswer}
use Rattle.session_core.specs.declared.session.Session.{Session}
use Rattle.session_core.specs.Sessions.{Follows, RestOnPool, seen_by, tokens_of}
use Rattle.session_replies.specs.declared.reply.Reply.{Reply}
use Rattle.bench_runs.specs.Served.{lines_of}
use Rattle.bench_runs.specs.Walks.{DoesCommand, Stand, Walks, at_start}
use Rattle.hinted_log.specs.declared.log.TheConstants.{MAX_STEPS}
use Rattle.bench_runs.specs.declared.runner.Runner.{Runner}

-- the history has what it had, the log has grown, and each query that was kept is kept
pub record GoesOn (history more : List HistoryEntry) (log grown : OracleLog) (answers kept : List KeptAnswer) : Type 0
  where
    pub longer : IsPrefix history more
    pub grows : Grows AnySide log grown
    pub keeps : (a : KeptAnswer) → Contains answers a → Contains kept a

-- the session is at the hub, by its number, as its engine is, and may go on
pub record IsReady (hub : Hub) (session : Session) : Type 0 where
  pub seat : IsSeatAt hub session.seat
  pub number : number_of session.seat ≡ session.number
  pub engine : session.engine.number ≡ session.number
  pub follows : Follows hub session

-- where the session stands
abbrev pub stand_of : Session → Stand
stand_of session = record {
  seen = seen_by session;
  followed = session.followed;
  log = session.engine.log;
  answers = session.answers.items;
}

-- the session did what a command says, and was told this of it
abbrev pub IsTold : Hub → ℕ → ScriptCommand → Session → Session → Reply → Type 0
IsTold hub budget command old new reply =
    DoesCommand (start_of hub) (limit_of hub) budget old.number command (stand_of old) reply (stand_of new)

-- the session has done its lines among these, one after the other, and got these replies; the tokens that it keeps are
-- the pool's, and stand at its indexes from 0 to the one at which the session looks next
pub record HasServed (hub : Hub) (pool : Pool) (budget : ℕ) (lines : List ScriptLine) (runner : Runner) : Type 0 where
  pub ready : IsReady hub runner.session
  pub walks : Walks (start_of hub) (limit_of hub) budget runner.session.number (at_start MAX_STEPS)
      (lines_of runner.session.number lines) runner.replies (stand_of runner.session)
  pub pooled : RestOnPool pool runner.session.answers.items
  pub row : AreInRow 0 (tokens_of runner.session.answers.items) runner.session.taken
