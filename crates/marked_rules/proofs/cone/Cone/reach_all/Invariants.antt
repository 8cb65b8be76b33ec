use Rattle.marked_sets.proofs.MarkLemmas.{IsSecond}
use Rattle.marked_rules.specs.Cone.{Reaches}
use Rattle.marked_rules.proofs.cone.Cone.reach_all.Given as goal

abbrev pub invariant-loop-pair : goal.invariant-loop-pair
invariant-loop-pair l = Reaches (IsSecond l.pairs l.pair-index) l.initial.self l.self
