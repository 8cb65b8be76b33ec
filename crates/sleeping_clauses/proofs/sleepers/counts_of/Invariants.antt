use Rattle.sleeping_clauses.proofs.sleepers.counts_of.Given as goal

abbrev pub invariant-loop-index : goal.invariant-loop-index
invariant-loop-index l = Unit {0}
