-- A clause that is taken from an entry.
use Rattle.std.specs.Prelude.{◌≡◌, ◌⊎◌, ℕ, false, List, length, take, Some, Ok, true, Bool}
use Rattle.plain_lits.specs.HintCheck.{Checks}
use Rattle.meaning_atoms.specs.declared.atom.AtomLit.{AtomLit}
use Rattle.meaning_atoms.specs.Literals.{negated, AsksNothing}
use Rattle.oracle_face.specs.declared.entry.EntryName.{EntryName}
use Rattle.oracle_face.specs.Logs.{OracleLog, LogStep, IsSameClause, clauses_of}
use Rattle.session_log.specs.Steps.{GainsStep, derived_step}
use Rattle.atom_solver.specs.States.{AtomState}

-- the log has one step more, which is in use and marked as taken from the entry: the check takes the clause by the
-- first of the hints, which the step keeps
pub record Imports (literals : List AtomLit) (hints : List ℕ) (name : EntryName) (old new : AtomState) : Type 0 where
  pub clause : List AtomLit
  pub used : ℕ
  pub same : IsSameClause clause literals
  pub checks : Checks negated (clauses_of old.log.steps) clause (take used hints) (Ok (length (take used hints)))
  pub gains : GainsStep (derived_step clause (take used hints) (Some name) false) old.log.sides old.log new.log
  pub pending_same : new.pending ≡ old.pending

-- the log is full, or the check doesn't take the clause, however many of the hints it looks at
abbrev pub IsRefused : OracleLog → List AtomLit → List ℕ → Type 0
IsRefused log literals hints =
    (length log.steps ≡ log.limit)
    ⊎ ((used : ℕ) → Checks negated (clauses_of log.steps) literals hints (Ok used) → ⊥)

-- whether a clause was taken
abbrev pub IsImported : List AtomLit → List ℕ → EntryName → AtomState → AtomState → Bool → Type 0
IsImported literals hints name old new true = Imports literals hints name old new
IsImported literals hints name old new false = (new ≡ old) × IsRefused old.log literals hints

-- a step that didn't only end a search, and asks for no side clause
pub record IsPlain (step : LogStep) : Type 0 where
  pub kept : step.closing ≡ false
  pub plain : AsksNothing step.clause
