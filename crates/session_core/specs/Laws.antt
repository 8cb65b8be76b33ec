-- Laws of what is kept of a session.
use Rattle.std.specs.Prelude.{ℕ}
use Rattle.semantics.specs.Frameworks.{Framework}
use Rattle.iccma_tasks.specs.Tasks.{Asked}
use Rattle.edit_history.specs.declared.hub.Hub.{Hub}
use Rattle.edit_history.specs.Entries.{framework_after}
use Rattle.edit_history.specs.Hubs.{start_of}
use Rattle.oracle_face.specs.Growing.{Grows}
use Rattle.oracle_face.specs.Logs.{OracleLog}
use Rattle.oracle_core.specs.Trading.{AnySide}
use Rattle.session_replies.specs.declared.reply.Body.{Body}
use Rattle.session_replies.specs.declared.reply.Reply.{Reply}
use Rattle.session_core.specs.declared.kept.KeptAnswer.{KeptAnswer}
use Rattle.session_core.specs.declared.session.Session.{Session}
use Rattle.session_core.specs.Replies.{IsReadable}
use Rattle.session_core.specs.Sessions.{IsAsked, seen_by}

-- the reply to a query can be read off the log behind it
abbrev pub AskedIsReadable : Type 0
AskedIsReadable = (hub : Hub) (asked : Asked) (limit : ℕ) (old new : Session) (reply : Reply)
    → (is : IsAsked hub asked limit old new reply)
    → IsReadable (framework_after (start_of hub) (seen_by new)) asked limit new.engine.log is.kept reply.body

-- and off each log that grows from one that it can be read off
abbrev pub ReadableStays : Type 0
ReadableStays = (f : Framework) (asked : Asked) (limit : ℕ) (log later : OracleLog) (kept : KeptAnswer) (body : Body)
    → IsReadable f asked limit log kept body → Grows AnySide log later → IsReadable f asked limit later kept body
