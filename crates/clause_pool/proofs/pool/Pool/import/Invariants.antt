use Rattle.std.proofs.Common.{◌-◌}
use Rattle.clause_pool.proofs.ImportLemmas.{IsLook}
use Rattle.clause_pool.proofs.pool.Pool.import.Given as goal

abbrev pub invariant-loop-next : goal.invariant-loop-next
invariant-loop-next l = IsLook l.from l.entries l.next

abbrev pub decreases-loop-next : goal.decreases-loop-next
decreases-loop-next l = 18446744073709551615 - l.next
