use Rattle.std.proofs.Common.{◌≡◌, ◌++◌, ◌≤◌, length, reverse}
use Rattle.std.specs.Prelude.{vec_capacity, vec_len}
use Rattle.edit_history.proofs.server.take_last.Given as goal

-- so many seats went over, the last one first
abbrev pub invariant-loop : goal.invariant-loop
invariant-loop l =
    (l.fn.seats.items ≡ l.seats.items ++ reverse l.own.items) × (length l.own.items ≡ l.counter)
    × (vec_len l.own ≡ l.counter) × (l.fn.count ≤ vec_capacity l.own)
