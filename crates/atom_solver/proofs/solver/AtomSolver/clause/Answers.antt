use Rattle.atom_solver.proofs.solver.AtomSolver.clause.Goals as goal

pub returns : goal.returns
returns c = rw (← c.self.view_is) c.clause.ensures
