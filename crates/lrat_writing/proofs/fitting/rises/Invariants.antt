use Rattle.lrat_writing.proofs.RoomsAndOrder.{RisesTo}
use Rattle.lrat_writing.proofs.fitting.rises.Given as goal

abbrev pub invariant-loop-index : goal.invariant-loop-index
invariant-loop-index l = RisesTo l.clause l.index
