-- What holds of every run of the core over several frameworks: the laws of one, for each of them; and that none meddles
-- with another.
use Rattle.std.specs.Prelude.{◌≡◌, ◌≢◌, ℕ, ◌≤◌, List, length, Option, Some}
use Rattle.semantics.specs.Frameworks.{Framework, IsNumbered}
use Rattle.iccma_tasks.specs.Tasks.{Asked}
use Rattle.iccma_tasks.specs.declared.answer.Answer.{Answer}
use Rattle.certificate_claims.specs.Rights.{IsRight}
use Rattle.edit_rules.specs.Replay.{AreTaken}
use Rattle.edit_history.specs.declared.entry.HistoryEntry.{HistoryEntry}
use Rattle.edit_history.specs.Entries.{edits_of}
use Rattle.oracle_face.specs.declared.entry.Entry.{Entry as PoolEntry}
use Rattle.oracle_face.specs.declared.face.Pending.{Pending}
use Rattle.oracle_face.specs.Entries.{IsShareable}
use Rattle.oracle_face.specs.Logs.{IsNumberOf}
use Rattle.session_log.specs.Ends.{definite}
use Rattle.session_log.specs.Steps.{Spends}
use Rattle.session_log.specs.Truth.{IsTrueOfWorlds}
use Rattle.certificate_making.specs.Accepted.{HasAccepted}
use Rattle.core_machine.specs.Core.{seen_framework}
use Rattle.core_machine.specs.Steps.{Event, answer, take_in}
use Rattle.core_machine.specs.Servers.{IsFramework, IsOn, IsServerOpened, IsServerStep, Server, ServerRuns, core_at}
use Rattle.core_machine.specs.Servers.{part_at, session_of_event}

-- a run from the beginning, over frameworks in their form
pub record IsServerRun (start : Server) (events : List Event) (taken : ℕ → List HistoryEntry) (server : Server) : Type 0
  where
    pub opened : IsServerOpened start
    pub numbered : (k : ℕ) → IsFramework (length start.parts) k → IsNumbered (part_at start.parts k).opening
    pub runs : ServerRuns start events taken server

-- each framework is the one of the beginning, its history is the list of the groups of edits that were taken on it, in
-- order, and none of their edits is refused there
abbrev pub EachHistoryIsTaken : Type 0
EachHistoryIsTaken = (start server : Server) (events : List Event) (taken : ℕ → List HistoryEntry)
    → IsServerRun start events taken server → (k : ℕ) → IsFramework (length start.parts) k
    → ((part_at server.parts k).opening ≡ (part_at start.parts k).opening)
    × ((part_at server.parts k).history ≡ taken k)
    × AreTaken (part_at start.parts k).opening (edits_of (part_at server.parts k).history)

-- what a session has seen of its framework's history never shrinks, and is never more than there is
abbrev pub EachSeesMoreOfItsOwn : Type 0
EachSeesMoreOfItsOwn = (start server new : Server) (before events : List Event) (earlier taken : ℕ → List HistoryEntry)
    → IsServerRun start before earlier server → ServerRuns server events taken new
    → (s k : ℕ) → IsOn start.uses s k
    → ((server.sessions s).seen ≤ (new.sessions s).seen)
    × ((new.sessions s).seen ≤ length (part_at new.parts k).history)

-- each step of a log is true in every world of every framework, beside the side clauses
abbrev pub AllLogsAreTrue : Type 0
AllLogsAreTrue = (start server : Server) (events : List Event) (taken : ℕ → List HistoryEntry)
    → IsServerRun start events taken server
    → (s number : ℕ) → IsNumberOf (server.sessions s).log.steps number → IsTrueOfWorlds (server.sessions s).log number

-- each entry of the one pool may be shared with all, on whichever framework it was made
abbrev pub OnePoolIsValid : Type 0
OnePoolIsValid = (start server : Server) (events : List Event) (taken : ℕ → List HistoryEntry)
    → IsServerRun start events taken server
    → (i : ℕ) (entry : PoolEntry) → server.pool i ≡ Some entry → IsShareable entry

-- each answer that a run comes to is right on what its session has seen of its own framework, and its certificate is
-- accepted
abbrev pub AllAnswersAreRight : Type 0
AllAnswersAreRight = (start server new : Server) (events : List Event) (taken : ℕ → List HistoryEntry)
    → IsServerRun start events taken server → (s k : ℕ) → IsOn start.uses s k
    → (asked : Asked) (most budget : ℕ) (pending : Option Pending) (given : Answer) (sets : List (List ℕ))
    → IsServerStep server (answer s asked most budget pending (definite given sets)) new
    → IsRight (seen_framework (core_at server k) s) asked given
    × HasAccepted (seen_framework (core_at server k) s) asked given sets

-- what a session takes from the pool, from whichever framework, spends no unit of its budget
abbrev pub AllImportsSpendNothing : Type 0
AllImportsSpendNothing = (f : Framework) (server new : Server) (s i : ℕ) → IsServerStep server (take_in s i) new
    → Spends f (server.sessions s).log (new.sessions s).log 0 0

-- a step on one framework changes no entry or turn of another, and nothing of a session of another
pub record StaysAsItWas (server new : Server) (j : ℕ) : Type 0 where
  pub part : part_at new.parts j ≡ part_at server.parts j
  pub sessions : (s : ℕ) → IsOn server.uses s j → new.sessions s ≡ server.sessions s

abbrev pub OthersAreUntouched : Type 0
OthersAreUntouched = (server new : Server) (event : Event) (k : ℕ) → IsOn server.uses (session_of_event event) k
    → IsServerStep server event new
    → (j : ℕ) → IsFramework (length server.parts) j → j ≢ k → StaysAsItWas server new j
