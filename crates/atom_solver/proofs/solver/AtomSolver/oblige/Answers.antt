use Rattle.atom_solver.proofs.solver.AtomSolver.oblige.Goals as goal

pub returns-clause-obliges : goal.returns-clause-obliges
returns-clause-obliges c = rw (← c.self.view_is) c.oblige.ensures.obliges

pub returns-clause-run : goal.returns-clause-run
returns-clause-run c = rw (← c.self.view_is) c.oblige.ensures.run

pub returns-clause-log : goal.returns-clause-log
returns-clause-log c = rw (← c.self.view_is) c.oblige.ensures.log

pub returns-clause-same : goal.returns-clause-same
returns-clause-same c = rw (← c.self.view_is) c.oblige.ensures.same

pub returns-clause-keeps : goal.returns-clause-keeps
returns-clause-keeps c = rw (← c.self.view_is) c.oblige.ensures.keeps

pub returns-clause-in_hand : goal.returns-clause-in_hand
returns-clause-in_hand c = c.oblige.ensures.in_hand
