use Rattle.std.proofs.Common.{take}
use Rattle.conflict_learn.specs.Analyses.{IsReach}
use Rattle.conflict_learn.proofs.workspace.Workspace.reach.Given as goal

abbrev pub invariant-loop-lit : goal.invariant-loop-lit
invariant-loop-lit l = IsReach l.search.lits (take l.lit-index l.self.clause.items) l.reach
