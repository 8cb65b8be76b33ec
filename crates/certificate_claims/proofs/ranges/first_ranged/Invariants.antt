use Rattle.std.proofs.Common.{take}
use Rattle.iccma_tasks.specs.semantics.specs.Frameworks.{af}
use Rattle.certificate_claims.specs.Ranges.{IsFirstRanged}
use Rattle.certificate_claims.proofs.ranges.first_ranged.Given as goal

abbrev pub invariant-loop-set : goal.invariant-loop-set
invariant-loop-set l = IsFirstRanged (af l.plain) (take l.set-index l.sets) l.found
