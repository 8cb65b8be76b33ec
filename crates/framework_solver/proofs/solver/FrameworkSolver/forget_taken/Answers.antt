use Rattle.framework_solver.proofs.Forcing.{whole_forgotten}
use Rattle.framework_solver.proofs.solver.FrameworkSolver.forget_taken.Goals as goal

pub returns-clause-whole : goal.returns-clause-whole
returns-clause-whole c = rw c.new.ensures (whole_forgotten c.args.self.now c.requires.whole c.requires.in_force)
