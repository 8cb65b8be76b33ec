-- What one session is told of the lines of its script.
use Rattle.std.specs.Prelude.{◌≡◌, ℕ, ◌==◌, ◌+◌, ◌<◌, ◌≤◌, Bool, List, [], ◌∷◌, ◌++◌, length, filter, Contains, Ok}
use Rattle.std.specs.List.{AllZip}
use mathlib.Core.List.{IsPrefix}
use Rattle.semantics.specs.Frameworks.{Framework}
use Rattle.iccma_tasks.specs.Tasks.{Asked}
use Rattle.edit_rules.specs.declared.edit.Edit.{Edit}
use Rattle.edit_rules.specs.declared.effect.Effect.{Effect}
use Rattle.edit_rules.specs.declared.effect.EditFault.{EditFault}
use Rattle.edit_rules.specs.Groups.{group_told}
use Rattle.turn_lock.specs.Turns.{entries_of}
use Rattle.edit_history.specs.declared.entry.HistoryEntry.{HistoryEntry}
use Rattle.edit_history.specs.Entries.{edit_count, framework_after, session_of}
use Rattle.script_text.specs.declared.script.ScriptCommand.{ScriptCommand}
use Rattle.script_text.specs.declared.script.ScriptCommand.TheVariants.{Edit as change_by, Ask}
use Rattle.script_text.specs.declared.script.ScriptLine.{ScriptLine}
use Rattle.session_replies.specs.declared.reply.Body.{Body}
use Rattle.session_replies.specs.declared.reply.Body.TheVariants.{Done, EditRefused, Full}
use Rattle.session_replies.specs.declared.reply.Reply.{Reply}
use Rattle.session_core.specs.oracle_core.specs.Trading.{AnySide}
use Rattle.oracle_face.specs.Growing.{Grows}
use Rattle.oracle_face.specs.Logs.{OracleLog}
use Rattle.session_core.specs.Replies.{IsKeptOf, IsRefusal, IsReplied}
use Rattle.session_core.specs.declared.kept.KeptAnswer.{KeptAnswer}
use Rattle.bench_runs.specs.Walks.{HasWalked}

-- ---- the lines of a script

-- the lines of a session, in order
abbrev pub lines_of : ℕ → List ScriptLine → List ScriptLine
lines_of s lines = filter (λ (l : ScriptLine). l.session == s) lines

-- ---- a reply stands in the history

-- the first entries of the history are these, and the front counts them
pub record IsFront (history found : List HistoryEntry) (front : ℕ) : Type 0 where
  pub beginning : IsPrefix found history
  pub counts : front ≡ length found

abbrev pub entry_by : ℕ → List Edit → HistoryEntry
entry_by s edits = record { session = s; edits = edits }

-- the last entry up to the front is the session's group, which was taken with these effects behind those before it
pub record TakesGroup (f : Framework) (s : ℕ) (history : List HistoryEntry) (edits : List Edit) (front : ℕ)
    (effects : List Effect) : Type 0 where
  pub found : List HistoryEntry
  pub at : IsFront history (found ++ entry_by s edits ∷ []) front
  pub taken : group_told (framework_after f found) edits ≡ Ok effects

-- the history has room, and the framework behind the entries up to the front refuses the group so
pub record RefusesGroup (grouped : Bool) (f : Framework) (limit : ℕ) (history : List HistoryEntry) (edits : List Edit)
    (front told : ℕ) (fault : EditFault) : Type 0 where
  pub found : List HistoryEntry
  pub at : IsFront history found front
  pub room : edit_count found + length edits ≤ limit
  pub refused : IsRefusal grouped (framework_after f found) edits told fault

-- the history has no room for so many edits more
pub record IsFull (limit : ℕ) (history : List HistoryEntry) (edits : List Edit) (front : ℕ) : Type 0 where
  pub found : List HistoryEntry
  pub at : IsFront history found front
  pub full : limit < edit_count found + length edits

-- what a group of edits may be told
abbrev pub EditEnds : Bool → Framework → ℕ → ℕ → List HistoryEntry → List Edit → ℕ → Body → Type 0
EditEnds grouped f limit s history edits front (Done effects) = TakesGroup f s history edits front effects
EditEnds grouped f limit s history edits front (EditRefused told fault) =
    RefusesGroup grouped f limit history edits front told fault
EditEnds grouped f limit s history edits front Full = IsFull limit history edits front
EditEnds grouped f limit s history edits front _ = ⊥

-- a query has this reply on the framework behind the entries up to the front, by what the log had before it and behind
-- it; the log has only grown since, and what is kept of the query is listed
pub record AnswersQuery (f : Framework) (budget : ℕ) (history : List HistoryEntry) (log : OracleLog)
    (answers : List KeptAnswer) (asked : Asked) (front : ℕ) (body : Body) : Type 0 where
  pub found : List HistoryEntry
  pub at : IsFront history found front
  pub before : OracleLog
  pub behind : OracleLog
  pub grown : Grows AnySide behind log
  pub kept : KeptAnswer
  pub used : ℕ
  pub replied : IsReplied (framework_after f found) asked budget before behind kept.pending used body
  pub kept_is : IsKeptOf before behind body kept
  pub listed : Contains answers kept

-- what a line of the script may be told
abbrev pub CommandEnds : Framework → ℕ → ℕ → ℕ → List HistoryEntry → OracleLog → List KeptAnswer → ScriptCommand → ℕ →
    Body → Type 0
CommandEnds f limit budget s history log answers (change_by edits grouped) front body =
    EditEnds grouped f limit s history edits front body
CommandEnds f limit budget s history log answers (Ask asked) front body =
    AnswersQuery f budget history log answers asked front body

abbrev pub LineEnds : Framework → ℕ → ℕ → ℕ → List HistoryEntry → OracleLog → List KeptAnswer → ScriptLine → Reply →
    Type 0
LineEnds f limit budget s history log answers line reply =
    CommandEnds f limit budget s history log answers line.command reply.front reply.body

-- ---- all replies of a session

-- the fronts never fall, from the one number to the other
abbrev pub FrontsRise : ℕ → List Reply → ℕ → Type 0
FrontsRise low [] high = low ≤ high
FrontsRise low (reply ∷ more) high = (low ≤ reply.front) × FrontsRise reply.front more high

-- the entry that a line made, if it did
abbrev pub made_by : ℕ → ScriptCommand → Body → List HistoryEntry
made_by s (change_by edits grouped) (Done effects) = entry_by s edits ∷ []
made_by s command body = []

-- the entries that lines made, in order
abbrev pub entries_made : ℕ → List ScriptLine → List Reply → List HistoryEntry
entries_made s (line ∷ lines) (reply ∷ replies) = made_by s line.command reply.body ++ entries_made s lines replies
entries_made s lines replies = []

-- a session of these lines: it walked them in order, each from where the one before left it. So each is told something
-- that is so; the fronts never fall; and the session's entries in the history are the groups that were taken
pub record IsServed (f : Framework) (limit budget s : ℕ) (lines : List ScriptLine) (history : List HistoryEntry)
    (log : OracleLog) (answers : List KeptAnswer) (replies : List Reply) : Type 0 where
  pub each : AllZip (LineEnds f limit budget s history log answers) lines replies
  pub rise : FrontsRise 0 replies (length history)
  pub own : entries_of session_of s history ≡ entries_made s lines replies
  pub walked : HasWalked f limit budget s lines history log answers replies
