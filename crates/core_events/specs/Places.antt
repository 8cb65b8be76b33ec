-- The pool that a list of places means.
use Rattle.std.specs.Prelude.{ℕ, ◌==◌, List, [], ◌∷◌, Option, Some, None, if◌then◌else◌}
use Rattle.oracle_face.specs.declared.entry.Entry.{Entry}
use Rattle.core_events.specs.declared.places.IndexedEntry.{IndexedEntry}

-- what stands under each index: the entry of the first place, if there is one
abbrev pub pool_of : List IndexedEntry → ℕ → Option Entry
pool_of [] i = None
pool_of (place ∷ places) i = if i == place.index then Some place.entry else pool_of places i
