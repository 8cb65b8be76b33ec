-- The entry that a step of a log goes to others as.
use Rattle.std.specs.Prelude.{◌≡◌, ℕ, ◌<◌, List, length, slice_index_or, None}
use Rattle.oracle_face.specs.declared.entry.Entry.{Entry}
use Rattle.oracle_face.specs.declared.entry.EntryOrigin.TheVariants.{Hints}
use Rattle.oracle_face.specs.declared.entry.HintName.{HintName}
use Rattle.oracle_face.specs.Logs.{LogStep, by_hints, hints_of, step_at}
use Rattle.oracle_face.specs.declared.step_source.StepSource.{StepSource}
use Rattle.atom_solver.specs.Imported.{IsPlain}
use Rattle.oracle_face.specs.StepSources.{imported_of, source_of}
use Rattle.session_log.specs.Imports.{IsCalled, name_in_log}

-- the step may go to others: it wasn't taken from an entry, follows from other steps, didn't only end a search, and asks
-- for no side clause
pub record IsShareableStep (step : LogStep) : Type 0 where
  pub own : step.imported ≡ None
  pub derived : step.source ≡ by_hints (hints_of step.source)
  pub plain : IsPlain step

-- the name calls the step of the number, and is the one under which its clause is handed on
pub record IsNamedAs (own : ℕ) (name : HintName) (number : ℕ) (step : LogStep) : Type 0 where
  pub called : IsCalled own name number step
  pub same : name ≡ name_in_log own number step.imported step.source

-- so it is of every step of the number that comes from there
abbrev pub CallsAny : ℕ → StepSource → ℕ → HintName → Type 0
CallsAny own origin number name =
    (step : LogStep) → step.source ≡ source_of origin (hints_of step.source) → step.imported ≡ imported_of origin
    → IsNamedAs own name number step

-- names are those of steps, one for one, in entries of the session of the number `own`
pub record AreNamesOf (own : ℕ) (steps : List LogStep) (numbers : List ℕ) (names : List HintName) : Type 0 where
  pub long : length names ≡ length numbers
  pub each : (k : ℕ) (d : HintName) → k < length numbers
      → IsNamedAs own (slice_index_or names k d) (slice_index_or numbers k 0)
      (step_at steps (slice_index_or numbers k 0))

-- the entry of a step that may go to others: its clause, under the session's number and its own, with its hints by
-- their names
pub record IsEntryOf (own : ℕ) (steps : List LogStep) (number : ℕ) (entry : Entry) : Type 0 where
  pub may : IsShareableStep (step_at steps number)
  pub clause : entry.clause ≡ (step_at steps number).clause
  pub name : entry.name ≡ record { session = own; step = number }
  pub names : List HintName
  pub origin : entry.origin ≡ Hints names
  pub named : AreNamesOf own steps (hints_of (step_at steps number).source) names
