use Rattle.std.proofs.Common.{◌≡◌, take}
use Rattle.sleeping_clauses.proofs.loading.unpacked.Given as goal

abbrev pub invariant-loop-packed : goal.invariant-loop-packed
invariant-loop-packed l = l.lits.items ≡ take l.packed-index l.clause
