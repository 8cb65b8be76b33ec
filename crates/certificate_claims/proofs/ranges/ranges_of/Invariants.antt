use Rattle.std.proofs.Common.{◌≡◌, map, take}
use Rattle.iccma_tasks.specs.semantics.specs.Frameworks.{af}
use Rattle.certificate_claims.specs.SetLiterals.{range_of}
use Rattle.certificate_claims.proofs.ranges.ranges_of.Given as goal

abbrev pub invariant-loop-set : goal.invariant-loop-set
invariant-loop-set l = l.ranges ≡ map (range_of (af l.plain)) (take l.set-index l.sets)
