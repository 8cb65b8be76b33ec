use Rattle.std.proofs.Common.{◌≡◌, ◌++◌, take}
use Rattle.clause_watches.proofs.arena.packed_all.Given as goal

abbrev pub invariant-loop-lit : goal.invariant-loop-lit
invariant-loop-lit l = l.row.items ≡ l.initial.row.items ++ take l.lit-index l.clause
