-- What follows of a session's way through its lines: whose entries its fronts count, that each query has records of its
-- own, and what two transcripts of one session alone have in common.
use Rattle.std.specs.Prelude.{◌≡◌, ℕ, ◌+◌, ◌<◌, ◌≤◌, Bool, true, false, List, [], ◌∷◌, ◌++◌, All, length, take}
use Rattle.std.specs.Prelude.{count_by, slice_index_or}
use Rattle.semantics.specs.Frameworks.{Framework}
use Rattle.iccma_tasks.specs.Tasks.{Asked}
use Rattle.turn_lock.specs.Turns.{entries_of}
use Rattle.edit_history.specs.declared.entry.HistoryEntry.{HistoryEntry}
use Rattle.edit_history.specs.Entries.{entries_in, framework_after, session_of}
use Rattle.oracle_face.specs.Logs.{OracleLog}
use Rattle.script_text.specs.declared.script.ScriptCommand.{ScriptCommand}
use Rattle.script_text.specs.declared.script.ScriptCommand.TheVariants.{Edit as change_by, Ask}
use Rattle.script_text.specs.declared.script.Script.{Script}
use Rattle.script_text.specs.declared.script.ScriptLine.{ScriptLine}
use Rattle.session_core.specs.Replies.{QuerySays}
use Rattle.session_core.specs.declared.kept.KeptAnswer.{KeptAnswer}
use Rattle.session_replies.specs.declared.reply.Reply.{Reply}
use Rattle.bench_runs.specs.Served.{entries_made, lines_of, made_by}
use Rattle.bench_runs.specs.Transcripts.{IsTranscriptOf}
use Rattle.bench_runs.specs.Walks.{HasWalked}
use Rattle.bench_runs.specs.declared.transcript.ScriptTranscript.{ScriptTranscript}

-- behind each line, the session's entries among the first `front` of the history are just those that its lines up to
-- this one made, in order
abbrev pub FrontsAreMade : Type 0
FrontsAreMade = (f : Framework) (limit budget s : ℕ) (lines : List ScriptLine) (history : List HistoryEntry)
    (log : OracleLog)
    (answers : List KeptAnswer) (replies : List Reply) → HasWalked f limit budget s lines history log answers replies
    → (k : ℕ) (none : Reply) → k < length lines
    → entries_of session_of s (take (slice_index_or replies k none).front history)
    ≡ entries_made s (take (k + 1) lines) (take (k + 1) replies)

-- ---- what is kept of queries

abbrev pub is_query : ScriptCommand → Bool
is_query (change_by edits grouped) = false
is_query (Ask asked) = true

-- the stretches of the log that the records name stand one behind the other, from the one length to the other
abbrev pub StretchesRise : ℕ → List KeptAnswer → ℕ → Type 0
StretchesRise low [] high = low ≤ high
StretchesRise low (kept ∷ more) high =
    (low ≤ kept.before) × (kept.before ≤ kept.after) × StretchesRise kept.after more high

-- a session keeps one record for each query of its lines, and no two of them have a step of the log in common
pub record AreOwnRecords (lines : List ScriptLine) (log : OracleLog) (answers : List KeptAnswer) : Type 0 where
  pub one_each : length answers ≡ count_by (λ l. is_query l.command) lines
  pub apart : StretchesRise 0 answers (length log.steps)

abbrev pub RecordsAreOwn : Type 0
RecordsAreOwn = (f : Framework) (limit budget s : ℕ) (lines : List ScriptLine) (history : List HistoryEntry)
    (log : OracleLog)
    (answers : List KeptAnswer) (replies : List Reply) → HasWalked f limit budget s lines history log answers replies
    → AreOwnRecords lines log answers

-- ---- one session alone

-- two replies to a query have one front, and each is told of this framework
pub record AreOfOne (g : Framework) (asked : Asked) (one two : Reply) : Type 0 where
  pub front : one.front ≡ two.front
  pub first : (log : OracleLog) × QuerySays g asked log one.body
  pub second : (log : OracleLog) × QuerySays g asked log two.body

-- two replies to a group of edits are the same; two replies to a query are told of one framework
abbrev pub IsAlike : Framework → ScriptCommand → Reply → Reply → Type 0
IsAlike g (change_by edits grouped) one two = one ≡ two
IsAlike g (Ask asked) one two = AreOfOne g asked one two

-- so are the replies to lines, where these groups were taken before
abbrev pub AreAlike : Framework → ℕ → List HistoryEntry → List ScriptLine → List Reply → List Reply → Type 0
AreAlike f s made [] [] [] = Unit {0}
AreAlike f s made (line ∷ lines) (one ∷ ones) (two ∷ twos) =
    IsAlike (framework_after f made) line.command one two
    × AreAlike f s (made ++ made_by s line.command one.body) lines ones twos
AreAlike f s made lines ones twos = ⊥

-- two transcripts of a script have the same entries, and as many sessions, which are told alike
pub record AreTold (f : Framework) (script : Script) (one two : ScriptTranscript) : Type 0 where
  pub entries : entries_in one.history.entries.items ≡ entries_in two.history.entries.items
  pub sessions : length one.replies.items ≡ length two.replies.items
  pub replies : (k : ℕ) (none : List Reply) → k < length one.replies.items
      → AreAlike f (k + 1) [] (lines_of (k + 1) script.lines) (slice_index_or one.replies.items k none)
      (slice_index_or two.replies.items k none)

-- the script and the framework determine what one session alone is told, up to which right set is shown and whether a
-- budget sufficed, whatever the budgets
abbrev pub AloneIsDetermined : Type 0
AloneIsDetermined = (f : Framework) (script : Script) (first second : ℕ) (one two : ScriptTranscript)
    → All (λ (l : ScriptLine). l.session ≡ 1) script.lines → IsTranscriptOf f script first one
    → IsTranscriptOf f script second two → AreTold f script one two
