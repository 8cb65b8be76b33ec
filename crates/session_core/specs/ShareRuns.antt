-- What a session shares is in the core: one event.
use Rattle.std.specs.Prelude.{◌≡◌, ◌⊎◌, ℕ, [], ◌∷◌, Some, None}
use Rattle.oracle_face.specs.declared.entry.Entry.{Entry as PoolEntry}
use Rattle.oracle_face.specs.Logs.{IsNumberOf}
use Rattle.oracle_core.specs.Sharing.{IsEntryOf}
use Rattle.core_machine.specs.Core.{Core}
use Rattle.core_machine.specs.Steps.{Runs, after_share, share}

-- in each state of the core, an entry that the session's engine hands over for a step of the log that the session has
-- there is one that the session may share at each index of the pool which is empty, or has this entry: that is a run of
-- the core, behind which the entry stands there
abbrev pub SharesAreRuns : Type 0
SharesAreRuns = (core : Core) (s k i : ℕ) (entry : PoolEntry) → IsNumberOf (core.sessions s).log.steps k
    → IsEntryOf s (core.sessions s).log.steps k entry → (core.pool i ≡ None) ⊎ (core.pool i ≡ Some entry)
    → Runs core (share s k i ∷ []) [] (after_share core s k i entry)
