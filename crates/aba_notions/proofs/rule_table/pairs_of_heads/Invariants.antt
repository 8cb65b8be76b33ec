use Rattle.aba_notions.proofs.TableLemmas.{ArePairsOfHeads}
use Rattle.aba_notions.proofs.rule_table.pairs_of_heads.Given as goal

abbrev pub invariant-loop-index : goal.invariant-loop-index
invariant-loop-index l = ArePairsOfHeads l.heads l.index l.pairs.items
