use Rattle.std.specs.Prelude.{◌-◌, length}
use Rattle.framework_solver.proofs.Joining.{HasTurned}
use Rattle.framework_solver.proofs.solver.FrameworkSolver.find.Given as goal

abbrev pub invariant-models : goal.invariant-models
invariant-models l = HasTurned l.fn.self l.self l.fn.budget l.budget

abbrev pub decreases-models : goal.decreases-models
decreases-models l = l.self.solver.log.limit - length l.self.solver.log.steps
