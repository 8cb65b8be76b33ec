-- The core: one framework that sessions edit, the log of each, and the clauses that they share.
use Rattle.std.specs.Prelude.{◌≡◌, ℕ, ◌==◌, List, [], take, Option, None, if◌then◌else◌}
use Rattle.semantics.specs.Frameworks.{Framework}
use Rattle.edit_history.specs.declared.entry.HistoryEntry.{HistoryEntry}
use Rattle.edit_history.specs.Entries.{framework_after}
use Rattle.oracle_face.specs.declared.entry.Entry.{Entry as PoolEntry}
use Rattle.oracle_face.specs.Logs.{OracleLog}

-- a session: how many entries of the history it has seen, its log, the steps that it handed to the pool, and the length
-- of its log at its last answer
pub record CoreSession : Type 0 where
  pub seen : ℕ
  pub log : OracleLog
  pub shared : List ℕ
  pub answered : ℕ

-- the framework at the beginning, how many edits the history may have, the history and the number of turns, what stands
-- at each index of the pool, and the session of each number
pub record Core : Type 0 where
  pub opening : Framework
  pub limit : ℕ
  pub history : List HistoryEntry
  pub turns : ℕ
  pub pool : ℕ → Option PoolEntry
  pub sessions : ℕ → CoreSession

-- the framework after what the session has seen
abbrev pub seen_framework : Core → ℕ → Framework
seen_framework core s = framework_after core.opening (take (core.sessions s).seen core.history)

-- ---- one session, or one place of the pool, changes

abbrev pub put_at : {X : Type 0} → ℕ → X → (ℕ → X) → ℕ → X
put_at n x items m = if m == n then x else items m

abbrev pub with_session : Core → ℕ → CoreSession → Core
with_session core s session = record core { sessions = put_at s session core.sessions }

-- the session's log is this one now
abbrev pub with_log : Core → ℕ → OracleLog → Core
with_log core s log = with_session core s (record (core.sessions s) { log = log })

-- ---- the beginning

-- nothing was done yet
pub record IsOpened (core : Core) : Type 0 where
  pub no_history : core.history ≡ []
  pub no_pool : (i : ℕ) → core.pool i ≡ None
  pub no_steps : (s : ℕ) → (core.sessions s).log.steps ≡ []
  pub no_sides : (s : ℕ) → (core.sessions s).log.sides ≡ []
  pub none_seen : (s : ℕ) → (core.sessions s).seen ≡ 0
