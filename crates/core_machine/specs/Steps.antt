-- The steps of the core: a group of edits is committed, a session sees all edits, learns a clause, keeps a side clause,
-- hands a clause to the pool or takes one from it, and answers a query.
use Rattle.std.specs.Prelude.{◌≡◌, ◌⊎◌, ℕ, ◌+◌, ◌<◌, Bool, true, false, List, [], ◌∷◌, ◌++◌, length, take}
use Rattle.std.specs.Prelude.{slice_index_or, count_by, Option, Some, None, Result, Ok, Err}
use Rattle.std.specs.Prelude.{if◌then◌else◌, nat_le}
use Rattle.plain_lits.specs.Units.{Units}
use Rattle.meaning_atoms.specs.declared.atom.AtomLit.{AtomLit}
use Rattle.meaning_atoms.specs.declared.axiom.AxiomName.{AxiomName}
use Rattle.meaning_atoms.specs.Literals.{AsksNothing}
use Rattle.iccma_tasks.specs.Tasks.{Asked}
use Rattle.edit_rules.specs.declared.edit.Edit.{Edit}
use Rattle.edit_rules.specs.declared.effect.Effect.{Effect}
use Rattle.edit_rules.specs.declared.effect.EditFault.{EditFault}
use Rattle.edit_rules.specs.Groups.{group_told}
use Rattle.edit_rules.specs.Replay.{replay}
use Rattle.edit_history.specs.declared.entry.HistoryEntry.{HistoryEntry}
use Rattle.edit_history.specs.Entries.{IsGroup, edit_count, edits_of, framework_after}
use Rattle.oracle_face.specs.declared.entry.Entry.{Entry as PoolEntry}
use Rattle.oracle_face.specs.declared.entry.EntryOrigin.{EntryOrigin}
use Rattle.oracle_face.specs.declared.entry.EntryOrigin.TheVariants.{Axiom as OfAxiom, Hints}
use Rattle.oracle_face.specs.declared.entry.HintName.{HintName}
use Rattle.oracle_face.specs.declared.face.Pending.{Pending}
use Rattle.oracle_face.specs.Logs.{OracleLog, LogStep, Source, by_axiom, by_side, by_hints, IsNumberOf}
use Rattle.oracle_face.specs.Logs.{IsSameClause, step_at}
use Rattle.oracle_face.specs.Needed.{IsNeeded}
use Rattle.session_log.specs.Ends.{Ending, IsEnd}
use Rattle.session_log.specs.Steps.{GainsStep, LearnsClause, TakesSide, axiom_step}
use Rattle.session_log.specs.Imports.{MayImport, TakesEntry, name_of_step}
use Rattle.session_log.specs.OwnSteps.{LearnsAxiom, NamesAxiom}
use Rattle.core_machine.specs.Core.{Core, put_at, seen_framework, with_log, with_session}

-- what a session does
pub data Event : Type 0 where
  commit : (s : ℕ) (edits : List Edit) → Event
  refresh : (s : ℕ) → Event
  learn : (s : ℕ) (clause : List AtomLit) (source : Source) (closing : Bool) → Event
  side : (s : ℕ) (set : List ℕ) (literals : List AtomLit) → Event
  share : (s k i : ℕ) → Event
  take_in : (s i : ℕ) → Event
  answer : (s : ℕ) (asked : Asked) (most budget : ℕ) (pending : Option Pending) (ending : Ending) → Event

-- ---- edits

abbrev pub entry_taken : ℕ → List Edit → Result (List Effect) (ℕ × EditFault) → List HistoryEntry
entry_taken s edits (Ok effects) = record { session = s; edits = edits } ∷ []
entry_taken s edits (Err refused) = []

-- what a commit adds: its entry, where the history has room for the edits and the framework after it takes the group
abbrev pub committed : Core → ℕ → List Edit → List HistoryEntry
committed core s edits =
    if nat_le (edit_count core.history + length edits) core.limit
    then entry_taken s edits (group_told (framework_after core.opening core.history) edits)
    else []

-- one turn: the history gains these entries, and the session has seen all of it
abbrev pub after_turn : Core → ℕ → List HistoryEntry → Core
after_turn core s entries =
    with_session (record core { history = core.history ++ entries; turns = core.turns + 1 }) s
    (record (core.sessions s) { seen = length (core.history ++ entries) })

-- ---- clauses

-- some entry of the pool names the axiom
pub record IsNamedInPool (core : Core) (name : AxiomName) : Type 0 where
  pub index : ℕ
  pub entry : PoolEntry
  pub there : core.pool index ≡ Some entry
  pub named : NamesAxiom name entry.origin

-- the axiom is needed on the framework after some of the edits that the session has seen, which may end inside a group
pub record IsNeededFor (core : Core) (s : ℕ) (name : AxiomName) : Type 0 where
  pub count : ℕ
  pub needed : IsNeeded (replay core.opening (take count (edits_of (take (core.sessions s).seen core.history)))) name

-- an axiom is called for by a framework that the session has seen, or by the pool
abbrev pub IsCalledFor : Core → ℕ → AxiomName → Type 0
IsCalledFor core s name = IsNeededFor core s name ⊎ IsNamedInPool core name

-- what is learned: an axiom that is called for, a loop clause that is new, or a clause that follows by hints of which
-- each is needed
abbrev pub LearnsTo : Core → ℕ → List AtomLit → Source → Bool → OracleLog → Type 0
LearnsTo core s clause (by_axiom name) closing log =
    (closing ≡ false) × LearnsAxiom (IsCalledFor core s) core.opening name clause (core.sessions s).log log
LearnsTo core s clause (by_side n) closing log = ⊥
LearnsTo core s clause (by_hints hints) closing log = LearnsClause clause hints closing (core.sessions s).log log

-- where a shared clause comes from: each hint by its name
abbrev pub origin_of : ℕ → List LogStep → Source → EntryOrigin → Type 0
origin_of s steps (by_axiom name) origin = origin ≡ OfAxiom name
origin_of s steps (by_side n) origin = ⊥
origin_of s steps (by_hints hints) origin =
    (names : List HintName) × (origin ≡ Hints names) × (length names ≡ length hints)
    × ((k : ℕ) (d : HintName) → k < length hints
    → slice_index_or names k d ≡ name_of_step s steps (slice_index_or hints k 0))

-- the entry of a step stands at an index of the pool, and the session has shared the step
abbrev pub after_share : Core → ℕ → ℕ → ℕ → PoolEntry → Core
after_share core s k i entry =
    with_session (record core { pool = put_at i (Some entry) core.pool }) s
    (record (core.sessions s) { shared = k ∷ (core.sessions s).shared })

-- a step of one's own that asks for no side clause is handed to a place of the pool that is empty, or has the same
-- entry
pub record Shares (core : Core) (s k i : ℕ) (new : Core) : Type 0 where
  pub step : IsNumberOf (core.sessions s).log.steps k
  pub plain : AsksNothing (step_at (core.sessions s).log.steps k).clause
  pub own : (step_at (core.sessions s).log.steps k).imported ≡ None
  pub entry : PoolEntry
  pub clause : entry.clause ≡ (step_at (core.sessions s).log.steps k).clause
  pub name : entry.name ≡ record { session = s; step = k }
  pub origin : origin_of s (core.sessions s).log.steps (step_at (core.sessions s).log.steps k).source entry.origin
  pub place : (core.pool i ≡ None) ⊎ (core.pool i ≡ Some entry)
  pub is : new ≡ after_share core s k i entry

-- the axiom of an entry comes, marked as taken from it
pub record TakesAxiomEntry (name : AxiomName) (entry : PoolEntry) (old new : OracleLog) : Type 0 where
  pub clause : List AtomLit
  pub same : IsSameClause clause entry.clause
  pub gains : GainsStep (axiom_step name clause (Some entry.name)) old.sides old new

-- an entry comes by its origin: as its axiom, or by steps that its hints name
abbrev pub TakesByOrigin : ℕ → PoolEntry → EntryOrigin → OracleLog → OracleLog → Type 0
TakesByOrigin s entry (OfAxiom name) old new = TakesAxiomEntry name entry old new
TakesByOrigin s entry (Hints names) old new = TakesEntry s entry old new

-- an entry of another session comes into the log
pub record TakesFromPool (core : Core) (s i : ℕ) (new : Core) : Type 0 where
  pub entry : PoolEntry
  pub there : core.pool i ≡ Some entry
  pub may : MayImport core.opening s (core.sessions s).log entry
  pub log : OracleLog
  pub takes : TakesByOrigin s entry entry.origin (core.sessions s).log log
  pub is : new ≡ with_log core s log

-- ---- answers

-- whether a step is that of a side clause
abbrev pub is_by_side : Source → Bool
is_by_side (by_side n) = true
is_by_side source = false

abbrev pub is_side_step : LogStep → Bool
is_side_step step = is_by_side step.source

-- the log as it was with so many steps: each side clause has a step
abbrev pub cut : OracleLog → ℕ → OracleLog
cut log count = record {
  limit = log.limit;
  steps = take count log.steps;
  sides = take (count_by is_side_step (take count log.steps)) log.sides;
}

-- a query ends so on the framework after what its session has seen, by what its log has gained since the last answer
pub record Answers (core : Core) (s : ℕ) (asked : Asked) (most budget : ℕ) (pending : Option Pending) (ending : Ending)
    (new : Core) : Type 0 where
  pub after : Units
  pub ends : IsEnd (seen_framework core s) asked most (record {
    old = cut (core.sessions s).log (core.sessions s).answered;
    new = (core.sessions s).log;
    pending = pending;
    before = record { limit = budget; used = 0 };
    after = after;
  }) ending
  pub is : new ≡ with_session core s (record (core.sessions s) { answered = length (core.sessions s).log.steps })

-- ---- steps and runs

abbrev pub IsStep : Core → Event → Core → Type 0
IsStep core (commit s edits) new = IsGroup edits × (new ≡ after_turn core s (committed core s edits))
IsStep core (refresh s) new = new ≡ after_turn core s []
IsStep core (learn s clause source closing) new =
    (log : OracleLog) × LearnsTo core s clause source closing log × (new ≡ with_log core s log)
IsStep core (side s set literals) new =
    (log : OracleLog) × ((clause : List AtomLit) × TakesSide literals set clause (core.sessions s).log log)
    × (new ≡ with_log core s log)
IsStep core (share s k i) new = Shares core s k i new
IsStep core (take_in s i) new = TakesFromPool core s i new
IsStep core (answer s asked most budget pending ending) new = Answers core s asked most budget pending ending new

-- the entries that an event adds to the history
abbrev pub taken_by : Core → Event → List HistoryEntry
taken_by core (commit s edits) = committed core s edits
taken_by core event = []

-- the events lead from the one state to the other, and these entries are added
pub data Runs : Core → List Event → List HistoryEntry → Core → Type 0 where
  rests : (core : Core) → Runs core [] [] core
  goes : (core mid new : Core) (event : Event) (events : List Event) (taken : List HistoryEntry) → IsStep core event mid
      → Runs mid events taken new → Runs core (event ∷ events) (taken_by core event ++ taken) new
