use Rattle.std.proofs.Common.{◌≡◌, drop}
use Rattle.core_events.specs.Places.{pool_of}
use Rattle.core_events.proofs.places.find_entry.Given as goal

abbrev pub invariant-loop-place : goal.invariant-loop-place
invariant-loop-place l = pool_of (drop l.place-index l.places) l.index ≡ pool_of l.places l.index
