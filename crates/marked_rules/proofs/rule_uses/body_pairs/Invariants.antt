use Rattle.marked_rules.proofs.StartLemmas.{ArePairs}
use Rattle.marked_rules.proofs.rule_uses.body_pairs.Given as goal

abbrev pub invariant-loop-index : goal.invariant-loop-index
invariant-loop-index l = ArePairs l.plain l.index l.pairs.items
