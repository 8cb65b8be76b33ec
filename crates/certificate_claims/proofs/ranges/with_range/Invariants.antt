use Rattle.certificate_claims.proofs.RangeLists.{AreFrontWithRange}
use Rattle.certificate_claims.proofs.ranges.with_range.Given as goal

abbrev pub invariant-loop-index : goal.invariant-loop-index
invariant-loop-index l = AreFrontWithRange l.sets l.ranges l.range l.index l.found
