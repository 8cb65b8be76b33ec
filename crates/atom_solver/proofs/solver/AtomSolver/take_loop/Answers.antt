use Rattle.atom_solver.specs.Inner.{state_of}
use Rattle.atom_solver.proofs.Looping.{loop_guarded, loop_in_hand, loop_run}
use Rattle.atom_solver.proofs.solver.AtomSolver.take_loop.Goals as goal

pub returns-clause-run : goal.returns-clause-run
returns-clause-run c = rw (← c.self.view_is) (λ f guarded is fresh facts.
    loop_run c.args.name (state_of c.self.inside.parts) (state_of c.take_loop.new.self) f c.requires.loop_clause guarded is
    fresh facts c.take_loop.result c.args.budget.now c.take_loop.new.budget c.take_loop.ensures.ok
    c.take_loop.ensures.spent c.take_loop.ensures.limit c.take_loop.ensures.log c.take_loop.ensures.stops)

pub returns-clause-same : goal.returns-clause-same
returns-clause-same c = rw (← c.self.view_is) c.take_loop.ensures.log

pub returns-clause-log : goal.returns-clause-log
returns-clause-log c = rw (← c.self.view_is) (λ f is guarded.
    loop_guarded c.take_loop.result c.args.name (state_of c.self.inside.parts) (state_of c.take_loop.new.self) f
    c.take_loop.ensures.ok c.take_loop.ensures.log is guarded)

pub returns-clause-in_hand : goal.returns-clause-in_hand
returns-clause-in_hand c =
    loop_in_hand c.args.name (state_of c.take_loop.new.self) c.args.budget.now c.take_loop.new.budget c.take_loop.result
    c.take_loop.ensures.stops
