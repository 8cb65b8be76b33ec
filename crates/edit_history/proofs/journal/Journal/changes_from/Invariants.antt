use Rattle.std.proofs.Common.{◌≡◌, take}
use Rattle.edit_history.proofs.journal.Journal.changes_from.Given as goal

-- the changes so far
abbrev pub invariant-loop-change : goal.invariant-loop-change
invariant-loop-change l = l.changes ≡ take l.change-index l.change-items
