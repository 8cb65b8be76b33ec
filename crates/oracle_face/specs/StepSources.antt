-- What a step of a log comes from, by the place that keeps it and by its hints.
use Rattle.std.specs.Prelude.{ℕ, Bool, true, false, List, Option, Some, None}
use Rattle.oracle_face.specs.declared.entry.EntryName.{EntryName}
use Rattle.oracle_face.specs.declared.step_source.StepSource.{StepSource}
use Rattle.oracle_face.specs.declared.step_source.StepSource.TheVariants.{Axiom, Side, Entry, Hints}
use Rattle.oracle_face.specs.Logs.{Source, by_axiom, by_side, by_hints}

-- where a step comes from
abbrev pub source_of : StepSource → List ℕ → Source
source_of (Axiom name) hints = by_axiom name
source_of (Side n) hints = by_side n
source_of (Entry name) hints = by_hints hints
source_of Hints hints = by_hints hints

-- whether a step needs no hints: it is an axiom, or a side clause's
abbrev pub is_given : StepSource → Bool
is_given (Axiom name) = true
is_given (Side n) = true
is_given (Entry name) = false
is_given Hints = false

-- the entry that a step was taken from, if it was
abbrev pub imported_of : StepSource → Option EntryName
imported_of (Entry name) = Some name
imported_of _ = None
