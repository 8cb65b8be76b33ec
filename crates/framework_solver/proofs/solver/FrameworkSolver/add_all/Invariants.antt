use Rattle.std.specs.Prelude.{◌-◌, length}
use Rattle.framework_solver.proofs.Forcing.{HasListed}
use Rattle.framework_solver.proofs.solver.FrameworkSolver.add_all.Given as goal

abbrev pub invariant-loop-self : goal.invariant-loop-self
invariant-loop-self l = HasListed l.fn.self l.self

abbrev pub decreases-loop-self : goal.decreases-loop-self
decreases-loop-self l = length l.self.needed - l.self.taken
