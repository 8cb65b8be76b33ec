use Rattle.atom_solver.proofs.solver.AtomSolver.search.Goals as goal

pub returns-clause-log : goal.returns-clause-log
returns-clause-log g c = rw (← c.self.view_is) c.search.ensures.log

pub returns-clause-learns : goal.returns-clause-learns
returns-clause-learns g c = rw (← c.self.view_is) c.search.ensures.learns

pub returns-clause-in_hand : goal.returns-clause-in_hand
returns-clause-in_hand g c = c.search.ensures.in_hand
