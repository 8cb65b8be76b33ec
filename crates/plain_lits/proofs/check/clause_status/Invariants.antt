use Rattle.std.proofs.Common.{take}
use Rattle.plain_lits.proofs.CheckingLemmas.{IsSoFar}
use Rattle.plain_lits.proofs.check.clause_status.Given as goal

abbrev pub invariant-loop-packed : goal.invariant-loop-packed
invariant-loop-packed l = IsSoFar l.trail.lits (take l.packed-index l.clause) l.unset
