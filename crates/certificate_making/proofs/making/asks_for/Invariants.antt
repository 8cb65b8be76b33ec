use Rattle.edit_rules.specs.Kinds.{framework_of}
use Rattle.certificate_making.proofs.MakingLemmas.{AsksUpTo}
use Rattle.certificate_making.proofs.making.asks_for.Given as goal

abbrev pub invariant-loop-set : goal.invariant-loop-set
invariant-loop-set g l =
    AsksUpTo (g.L.ReadLog.log l.log).sides (framework_of l.framework) l.kind l.sets l.set-index l.asks.items
