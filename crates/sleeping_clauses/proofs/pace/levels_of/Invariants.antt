use Rattle.sleeping_clauses.proofs.pace.levels_of.Given as goal

abbrev pub invariant-loop-lit : goal.invariant-loop-lit
invariant-loop-lit l = Unit {0}
