use Rattle.std.proofs.Common.{◌-◌, length}
use Rattle.sat_core.specs.Runs.{GoesOn}
use Rattle.sat_core.proofs.decision_loop.DecisionLoop.decide_until_conflict.Given as goal

abbrev pub invariant-levels : goal.invariant-levels
invariant-levels l = GoesOn l.initial.self.search l.self.search

abbrev pub decreases-levels : goal.decreases-levels
decreases-levels l = l.self.search.vars - length l.self.search.lits
