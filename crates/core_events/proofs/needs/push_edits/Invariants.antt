use Rattle.std.proofs.Common.{◌≡◌, ◌++◌, take}
use Rattle.core_events.proofs.needs.push_edits.Given as goal

-- the edits so far
abbrev pub invariant-loop-edit : goal.invariant-loop-edit
invariant-loop-edit l = l.all ≡ l.fn.all ++ take l.edit-index l.edits
