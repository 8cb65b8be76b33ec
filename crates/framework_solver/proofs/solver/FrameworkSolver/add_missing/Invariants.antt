use Rattle.std.specs.Prelude.{◌-◌, length}
use Rattle.framework_solver.proofs.Forcing.{HasTaken}
use Rattle.framework_solver.proofs.solver.FrameworkSolver.add_missing.Given as goal

abbrev pub invariant-loop-self : goal.invariant-loop-self
invariant-loop-self l = HasTaken l.fn.self l.self

abbrev pub decreases-loop-self : goal.decreases-loop-self
decreases-loop-self l = length l.self.needed - l.self.taken
