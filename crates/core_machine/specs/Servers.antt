-- The core over several frameworks of one kind: each session edits one of them, and all share one pool.
use Rattle.std.specs.Prelude.{◌≡◌, ◌≢◌, ℕ, ◌-◌, ◌≤◌, ◌==◌, List, [], ◌∷◌, ◌++◌, length, slice_index_or, Option}
use Rattle.std.specs.Prelude.{if◌then◌else◌}
use Rattle.semantics.specs.Frameworks.{Framework, af}
use Rattle.edit_rules.specs.Kinds.{kind_of}
use Rattle.edit_history.specs.declared.entry.HistoryEntry.{HistoryEntry}
use Rattle.oracle_face.specs.declared.entry.Entry.{Entry as PoolEntry}
use Rattle.core_machine.specs.Core.{Core, CoreSession, IsOpened}
use Rattle.core_machine.specs.Steps.{Event, IsStep, answer, commit, learn, refresh, share, side, take_in, taken_by}

-- what each framework has of its own: how it was at the beginning, its history, and the number of its turns
pub record CorePart : Type 0 where
  pub opening : Framework
  pub history : List HistoryEntry
  pub turns : ℕ

-- the part of each framework, the number of the framework of each session, how many edits each history may have, what
-- stands at each index of the one pool, and the session of each number
pub record Server : Type 0 where
  pub parts : List CorePart
  pub uses : List ℕ
  pub limit : ℕ
  pub pool : ℕ → Option PoolEntry
  pub sessions : ℕ → CoreSession

-- ---- frameworks and their sessions, each numbered from 1

-- so many frameworks have one of this number
pub record IsFramework (count k : ℕ) : Type 0 where
  pub first : 1 ≤ k
  pub last : k ≤ count

-- the session is one of the framework
pub record IsOn (uses : List ℕ) (s k : ℕ) : Type 0 where
  pub first : 1 ≤ s
  pub last : s ≤ length uses
  pub is : slice_index_or uses (s - 1) 0 ≡ k

abbrev pub no_part : CorePart
no_part = record { opening = af (record { live = []; attacks = [] }); history = []; turns = 0 }

abbrev pub part_at : List CorePart → ℕ → CorePart
part_at parts k = slice_index_or parts (k - 1) no_part

-- the core that a framework's sessions meet: its own history, and the pool of all
abbrev pub core_with : Server → CorePart → Core
core_with server part = record {
  opening = part.opening;
  limit = server.limit;
  history = part.history;
  turns = part.turns;
  pool = server.pool;
  sessions = server.sessions;
}

abbrev pub core_at : Server → ℕ → Core
core_at server k = core_with server (part_at server.parts k)

-- ---- the beginning

-- there are frameworks, all of one kind; each session's framework is one of them; and nothing was done yet
pub record IsServerOpened (server : Server) : Type 0 where
  pub some_framework : 1 ≤ length server.parts
  pub used : (s k : ℕ) → IsOn server.uses s k → IsFramework (length server.parts) k
  pub one_kind : (j k : ℕ) → IsFramework (length server.parts) j → IsFramework (length server.parts) k
      → kind_of (part_at server.parts j).opening ≡ kind_of (part_at server.parts k).opening
  pub opened : (k : ℕ) → IsFramework (length server.parts) k → IsOpened (core_at server k)

-- ---- steps and runs

abbrev pub session_of_event : Event → ℕ
session_of_event (commit s edits) = s
session_of_event (refresh s) = s
session_of_event (learn s clause source closing) = s
session_of_event (side s set literals) = s
session_of_event (share s k i) = s
session_of_event (take_in s i) = s
session_of_event (answer s asked most budget pending ending) = s

-- an event is a step of the core of its session's framework, and every other framework's part stays; a session that is
-- on no framework has no step
pub record IsServerStep (server : Server) (event : Event) (new : Server) : Type 0 where
  pub k : ℕ
  pub on : IsOn server.uses (session_of_event event) k
  pub there : IsFramework (length server.parts) k
  pub step : IsStep (core_at server k) event (core_at new k)
  pub uses : new.uses ≡ server.uses
  pub count : length new.parts ≡ length server.parts
  pub others : (j : ℕ) → IsFramework (length server.parts) j → j ≢ k
      → part_at new.parts j ≡ part_at server.parts j

-- the entries that an event of a session of the framework k adds to the history of j
abbrev pub taken_on : Server → Event → ℕ → ℕ → List HistoryEntry
taken_on server event k j = if j == k then taken_by (core_at server k) event else []

-- the events lead from the one state to the other, and these entries are added to the history of each framework
pub data ServerRuns : Server → List Event → (ℕ → List HistoryEntry) → Server → Type 0 where
  server_rests : (server : Server) → ServerRuns server [] (λ j. []) server
  server_goes : (server mid new : Server) (event : Event) (events : List Event) (taken : ℕ → List HistoryEntry)
      → (step : IsServerStep server event mid) → ServerRuns mid events taken new
      → ServerRuns server (event ∷ events) (λ j. taken_on server event step.k j ++ taken j) new
