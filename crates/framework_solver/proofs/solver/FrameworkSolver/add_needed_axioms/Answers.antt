use Rattle.framework_solver.proofs.Joining.{halted_any}
use Rattle.framework_solver.proofs.solver.FrameworkSolver.add_needed_axioms.Goals as goal

pub returns-in_err-add_needed-clause-run : goal.returns-in_err-add_needed-clause-run
returns-in_err-add_needed-clause-run c = λ units.
    halted_any _ _ _ _ units units c.from_residual.result c.in_err-add_needed.field-0.0 c.from_residual.ensures
    (c.in_err-add_needed.ensures.run units)

pub returns-clause-run : goal.returns-clause-run
returns-clause-run c = λ units. rw c.forget_taken.ensures.rest (c.in_ok-add_needed.ensures.run units)

pub returns-clause-steps : goal.returns-clause-steps
returns-clause-steps c = λ own. rw c.forget_taken.ensures.rest (c.in_ok-add_needed.ensures.steps own)
