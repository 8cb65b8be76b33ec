use Rattle.sat_core.specs.Turns.{state_of}
use Rattle.sat_core.proofs.Holding.{solver_form}
use Rattle.sat_core.proofs.solver.Solver.active.Goals as goal

pub returns-clause-form : goal.returns-clause-form
returns-clause-form c =
    rw (← c.self.view_is)
    (solver_form (state_of c.self.inside.cdcl) _ _ _ c.len-form.ensures.form c.self.invariant.held)
