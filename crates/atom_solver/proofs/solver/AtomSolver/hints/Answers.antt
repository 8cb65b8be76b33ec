use Rattle.atom_solver.proofs.solver.AtomSolver.hints.Goals as goal

pub returns : goal.returns
returns c = rw (← c.self.view_is) c.hints.ensures
