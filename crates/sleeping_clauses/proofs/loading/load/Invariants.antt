use Rattle.std.proofs.Common.{take}
use Rattle.sleeping_clauses.specs.Sleeping.{AreLoaded}
use Rattle.sleeping_clauses.proofs.loading.load.Given as goal

abbrev pub invariant-loop-index : goal.invariant-loop-index
invariant-loop-index l = AreLoaded l.loaded l.asleep (take l.index l.awake) l.log.steps
