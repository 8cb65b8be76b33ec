use Rattle.conflict_learn.specs.Analyses.{AreLeft}
use Rattle.conflict_learn.proofs.walk.unmark.Given as goal

abbrev pub invariant-loop-lit : goal.invariant-loop-lit
invariant-loop-lit l = AreLeft l.search.lits l.clause l.marks.items l.lit-index
