-- The entry that a step is handed on as.
use Rattle.std.specs.Prelude.{◌≡◌, ℕ, List, Option, Some, None}
use Rattle.meaning_atoms.specs.Literals.{AsksNothing}
use Rattle.oracle_face.specs.declared.entry.Entry.{Entry}
use Rattle.oracle_face.specs.declared.entry.EntryOrigin.{EntryOrigin}
use Rattle.oracle_face.specs.Logs.{LogStep, Source, IsNumberOf, step_at}
use Rattle.core_machine.specs.Steps.{origin_of}

-- the origin of a clause of this source, or that there is none
abbrev pub OriginOfSome : ℕ → List LogStep → Source → Option EntryOrigin → Type 0
OriginOfSome s steps source (Some origin) = origin_of s steps source origin
OriginOfSome s steps source None = (origin : EntryOrigin) → origin_of s steps source origin → ⊥

-- the step of the number may be handed on as the entry
pub record IsEntryFor (s : ℕ) (steps : List LogStep) (number : ℕ) (entry : Entry) : Type 0 where
  pub step : IsNumberOf steps number
  pub plain : AsksNothing (step_at steps number).clause
  pub own : (step_at steps number).imported ≡ None
  pub clause : entry.clause ≡ (step_at steps number).clause
  pub name : entry.name ≡ record { session = s; step = number }
  pub origin : origin_of s steps (step_at steps number).source entry.origin

-- the entry, or that it may not
abbrev pub EntryForSome : ℕ → List LogStep → ℕ → Option Entry → Type 0
EntryForSome s steps number (Some entry) = IsEntryFor s steps number entry
EntryForSome s steps number None = (entry : Entry) → IsEntryFor s steps number entry → ⊥
