-- A session's way through its lines in the core: a run of it, in which the edits of other sessions come between.
use Rattle.std.specs.Prelude.{◌≡◌, ℕ, ◌+◌, ◌<◌, List, [], ◌∷◌, ◌++◌, length, map, slice_get, slice_index_or, Option}
use Rattle.std.specs.Prelude.{option_map}
use Rattle.semantics.specs.Frameworks.{Framework}
use Rattle.iccma_tasks.specs.Tasks.{Asked}
use Rattle.turn_lock.specs.Turns.{entries_of}
use Rattle.edit_history.specs.declared.entry.HistoryEntry.{HistoryEntry}
use Rattle.edit_history.specs.Entries.{entries_in, session_of}
use Rattle.oracle_face.specs.declared.face.Pending.{Pending}
use Rattle.oracle_face.specs.Logs.{OracleLog}
use Rattle.clause_pool.specs.Pools.{entry_of}
use Rattle.session_log.specs.Ends.{Ending}
use Rattle.script_text.specs.declared.script.Script.{Script}
use Rattle.script_text.specs.declared.script.ScriptCommand.{ScriptCommand}
use Rattle.script_text.specs.declared.script.ScriptCommand.TheVariants.{Edit as change_by, Ask}
use Rattle.script_text.specs.declared.script.ScriptLine.{ScriptLine}
use Rattle.core_machine.specs.Core.{Core}
use Rattle.core_machine.specs.Steps.{Event, Runs, answer, commit, refresh}
use Rattle.session_replies.specs.declared.reply.Body.{Body}
use Rattle.session_replies.specs.declared.reply.Reply.{Reply}
use Rattle.semantics.specs.declared.limits.TheConstants.{MAX_EXTENSIONS}
use Rattle.session_core.specs.CoreRuns.{AreOfLog, EndsAs}
use Rattle.session_core.specs.Sessions.{tokens_of}
use Rattle.session_core.specs.declared.kept.Kept.{Kept}
use Rattle.session_core.specs.declared.kept.KeptAnswer.{KeptAnswer}
use Rattle.hinted_log.specs.declared.log.TheConstants.{MAX_STEPS}
use Rattle.bench_runs.specs.declared.script_run.TheConstants.{MAX_HISTORY}
use Rattle.bench_runs.specs.declared.transcript.ScriptTranscript.{ScriptTranscript}
use Rattle.bench_runs.specs.Served.{lines_of, made_by}
use Rattle.bench_runs.specs.Transcripts.{IsTranscriptOf}
use Rattle.bench_runs.specs.Walks.{at_start}

-- the commits by which entries come
abbrev pub commits_of : List HistoryEntry → List Event
commits_of entries = map (λ (e : HistoryEntry). commit e.session e.edits) entries

-- a query's events: a refresh, steps of the session's own log, and the answer that the reply tells
pub record AreQueryEvents (s budget : ℕ) (asked : Asked) (said : Body) (events : List Event) : Type 0 where
  pub steps : List Event
  pub of_log : AreOfLog s steps
  pub pending : Option Pending
  pub ending : Ending
  pub ends : EndsAs said ending
  pub are : events ≡ refresh s ∷ (steps ++ answer s asked MAX_EXTENSIONS budget pending ending ∷ [])

-- a session's events for a line that has this reply
abbrev pub AreEventsOf : ℕ → ℕ → ScriptCommand → Body → List Event → Type 0
AreEventsOf s budget (change_by edits grouped) said events = events ≡ commit s edits ∷ []
AreEventsOf s budget (Ask asked) said events = AreQueryEvents s budget asked said events

-- entries of other sessions come, and then the session's events for a line with this reply: they add the entry that the
-- line made, if it did, and the reply's front is the history's length
pub record RunsLine (s budget : ℕ) (command : ScriptCommand) (reply : Reply) (core end : Core) : Type 0 where
  pub others : List HistoryEntry
  pub foreign : entries_of session_of s others ≡ []
  pub events : List Event
  pub own : AreEventsOf s budget command reply.body events
  pub runs : Runs core (commits_of others ++ events) (others ++ made_by s command reply.body) end
  pub front : reply.front ≡ length end.history

-- so it goes line by line
abbrev pub RunsLines : ℕ → ℕ → List ScriptLine → List Reply → Core → Core → Type 0
RunsLines s budget [] [] core end = end ≡ core
RunsLines s budget (line ∷ lines) (reply ∷ replies) core end =
    (mid : Core) × RunsLine s budget line.command reply core mid × RunsLines s budget lines replies mid end
RunsLines s budget lines replies core end = ⊥

-- the core at its beginning, but for its pool, which has the entries that the real one gave for these queries: each at
-- the index at which it stands there, since they were given from index 0 on, one after the other
abbrev pub begun : Framework → ℕ → List KeptAnswer → Core
begun f limit answers = record {
  opening = f;
  limit = limit;
  history = [];
  turns = 0;
  pool = λ i. option_map entry_of (slice_get (tokens_of answers) i);
  sessions = λ s. record { seen = 0; log = (at_start MAX_STEPS).log; shared = []; answered = 0 };
}

-- the lines, and then entries of other sessions, lead from there to the history and to the session's log
pub record RunsThrough (s budget : ℕ) (lines : List ScriptLine) (replies : List Reply) (history : List HistoryEntry)
    (log : OracleLog) (core : Core) : Type 0 where
  pub mid : Core
  pub lines_run : RunsLines s budget lines replies core mid
  pub others : List HistoryEntry
  pub foreign : entries_of session_of s others ≡ []
  pub end : Core
  pub runs : Runs mid (commits_of others) others end
  pub history_is : end.history ≡ history
  pub log_is : (end.sessions s).log ≡ log

-- each session of a transcript is a run of the core from its beginning, beside the edits of the other sessions and with
-- the clauses that the pool gave it
abbrev pub SessionsAreRuns : Type 0
SessionsAreRuns = (f : Framework) (script : Script) (budget : ℕ) (t : ScriptTranscript)
    → IsTranscriptOf f script budget t → (k : ℕ) (none : List Reply) (nothing : Kept) → k < length t.replies.items
    → RunsThrough (k + 1) budget (lines_of (k + 1) script.lines) (slice_index_or t.replies.items k none)
    (entries_in t.history.entries.items) (slice_index_or t.kept.items k nothing).engine.log
    (begun f MAX_HISTORY (slice_index_or t.kept.items k nothing).answers.items)
