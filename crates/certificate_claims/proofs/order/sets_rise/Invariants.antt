use Rattle.std.proofs.Common.{◌≤◌}
use Rattle.certificate_claims.proofs.OrderLemmas.{RiseSoFar}
use Rattle.certificate_claims.proofs.order.sets_rise.Given as goal

abbrev pub invariant-loop-index : goal.invariant-loop-index
invariant-loop-index l = RiseSoFar l.sets l.index × (1 ≤ l.index)
