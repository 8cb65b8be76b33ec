-- Laws of what is taken from entries.
use Rattle.std.specs.Prelude.{◌≡◌, ℕ, List}
use Rattle.semantics.specs.Frameworks.{Framework}
use Rattle.oracle_face.specs.declared.entry.Entry.{Entry}
use Rattle.oracle_face.specs.declared.entry.HintName.{HintName}
use Rattle.oracle_face.specs.Entries.{IsShareable}
use Rattle.oracle_face.specs.Growing.{NoSide}
use Rattle.oracle_face.specs.Logs.{OracleLog, LogStep, HasPart, IsLog, working}
use Rattle.session_log.specs.Guards.{IsGuarded}
use Rattle.session_log.specs.Steps.{Spends, StaysGuarded}
use Rattle.session_log.specs.Imports.{StandsFor, TakesEntry}

-- a guarded log that takes an entry in is one still
abbrev pub EntriesStay : Type 0
EntriesStay = (f : Framework) (own : ℕ) (entry : Entry) (old new : OracleLog) → IsLog f old → IsGuarded old
    → IsShareable entry → TakesEntry own entry old new → StaysGuarded NoSide f old new

-- an entry spends nothing
abbrev pub EntriesSpendNothing : Type 0
EntriesSpendNothing = (f : Framework) (own : ℕ) (entry : Entry) (old new : OracleLog)
    → TakesEntry own entry old new → Spends f old new 0 0

-- searches use the clause of an entry that was taken in
abbrev pub EntriesAreUsed : Type 0
EntriesAreUsed = (own : ℕ) (entry : Entry) (old new : OracleLog) → TakesEntry own entry old new
    → HasPart (working new.steps) entry.clause

-- a name stands for one step at most
abbrev pub NamesAreSingle : Type 0
NamesAreSingle = (own : ℕ) (steps : List LogStep) (name : HintName) (m n : ℕ) → StandsFor own steps name m
    → StandsFor own steps name n → m ≡ n
