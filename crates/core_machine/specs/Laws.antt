-- What holds of every run of the core from its beginning.
use Rattle.std.specs.Prelude.{◌≡◌, ℕ, ◌≤◌, List, length, Option, Some}
use Rattle.semantics.specs.Frameworks.{Framework, IsNumbered}
use Rattle.iccma_tasks.specs.Tasks.{Asked}
use Rattle.iccma_tasks.specs.declared.answer.Answer.{Answer}
use Rattle.certificate_claims.specs.Rights.{IsRight}
use Rattle.edit_rules.specs.Replay.{AreTaken}
use Rattle.edit_history.specs.declared.entry.HistoryEntry.{HistoryEntry}
use Rattle.edit_history.specs.Entries.{edits_of}
use Rattle.oracle_face.specs.declared.entry.Entry.{Entry as PoolEntry}
use Rattle.oracle_face.specs.declared.face.Pending.{Pending}
use Rattle.oracle_face.specs.Entries.{IsShareable}
use Rattle.oracle_face.specs.Logs.{IsNumberOf}
use Rattle.session_log.specs.Ends.{definite}
use Rattle.session_log.specs.Steps.{Spends}
use Rattle.session_log.specs.Truth.{IsTrueOfWorlds}
use Rattle.certificate_making.specs.Accepted.{HasAccepted}
use Rattle.core_machine.specs.Core.{Core, IsOpened, seen_framework}
use Rattle.core_machine.specs.Steps.{Event, IsStep, Runs, answer, take_in}

-- a run from the beginning, over a framework in its form
pub record IsRun (start : Core) (events : List Event) (taken : List HistoryEntry) (core : Core) : Type 0 where
  pub opened : IsOpened start
  pub numbered : IsNumbered start.opening
  pub runs : Runs start events taken core

-- the history is the list of the groups of edits that were taken, in order, and none of their edits is refused there
abbrev pub HistoryIsTaken : Type 0
HistoryIsTaken = (start core : Core) (events : List Event) (taken : List HistoryEntry) → IsRun start events taken core
    → (core.opening ≡ start.opening) × (core.history ≡ taken)
    × AreTaken start.opening (edits_of core.history)

-- what a session has seen never shrinks, and is never more than there is
abbrev pub EachSeesMore : Type 0
EachSeesMore = (start core new : Core) (before events : List Event) (earlier taken : List HistoryEntry)
    → IsRun start before earlier core → Runs core events taken new → (s : ℕ)
    → ((core.sessions s).seen ≤ (new.sessions s).seen) × ((new.sessions s).seen ≤ length new.history)

-- each step of a log is true in every world, beside the side clauses
abbrev pub LogsAreTrue : Type 0
LogsAreTrue = (start core : Core) (events : List Event) (taken : List HistoryEntry) → IsRun start events taken core
    → (s number : ℕ) → IsNumberOf (core.sessions s).log.steps number → IsTrueOfWorlds (core.sessions s).log number

-- each entry of the pool may be shared
abbrev pub PoolIsValid : Type 0
PoolIsValid = (start core : Core) (events : List Event) (taken : List HistoryEntry) → IsRun start events taken core
    → (i : ℕ) (entry : PoolEntry) → core.pool i ≡ Some entry → IsShareable entry

-- each answer that a run comes to is right on what its session has seen, and its certificate is accepted
abbrev pub AnswersAreRight : Type 0
AnswersAreRight = (start core new : Core) (events : List Event) (taken : List HistoryEntry) → IsRun start events taken
    core
    → (s : ℕ) (asked : Asked) (most budget : ℕ) (pending : Option Pending) (given : Answer) (sets : List (List ℕ))
    → IsStep core (answer s asked most budget pending (definite given sets)) new
    → IsRight (seen_framework core s) asked given × HasAccepted (seen_framework core s) asked given sets

-- what a session takes from the pool spends no unit of its budget
abbrev pub ImportsSpendNothing : Type 0
ImportsSpendNothing = (f : Framework) (core new : Core) (s i : ℕ) → IsStep core (take_in s i) new
    → Spends f (core.sessions s).log (new.sessions s).log 0 0
