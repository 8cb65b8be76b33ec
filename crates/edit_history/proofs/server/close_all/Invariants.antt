use Rattle.std.proofs.Common.{◌+◌, ◌≤◌, length}
use Rattle.std.specs.Prelude.{vec_capacity, vec_len}
use Rattle.edit_history.proofs.ServerLemmas.{IsClosing}
use Rattle.edit_history.proofs.server.close_all.Given as goal

-- what is left, and room for a history each
abbrev pub invariant-loop-hub : goal.invariant-loop-hub
invariant-loop-hub l =
    IsClosing l.fn.hubs.items l.fn.seats.items l.left.items l.seats.items l.parts.items l.ended.items
    × (vec_len l.ended + length l.left.items ≤ vec_capacity l.ended)

abbrev pub decreases-loop-hub : goal.decreases-loop-hub
decreases-loop-hub l = length l.left.items
