use Rattle.std.proofs.Common.{◌≡◌, take}
use Rattle.edit_history.specs.Entries.{edits_of}
use Rattle.core_events.proofs.needs.edits_in.Given as goal

-- the edits of the entries so far
abbrev pub invariant-loop-entry : goal.invariant-loop-entry
invariant-loop-entry l = l.edits ≡ edits_of (take l.entry-index l.entries)
