use Rattle.certificate_making.proofs.MakingLemmas.{MadeUpTo}
use Rattle.certificate_making.proofs.making.refutations_of.Given as goal

abbrev pub invariant-loop-index : goal.invariant-loop-index
invariant-loop-index g l =
    MadeUpTo (g.L.ReadLog.framework l.log) (g.L.ReadLog.log l.log) l.claims l.steps l.index l.made
