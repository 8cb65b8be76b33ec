use Rattle.std.proofs.Common.{ℕ, ap, subst, None, Ok, Some, []}
use Rattle.edit_rules.specs.Kinds.{framework_of}
use Rattle.oracle_face.specs.Growing.{HasRun, NoSide, UnlessMemory, halt_of}
use Rattle.atom_solver.specs.Searches.{ends_in}
use Rattle.atom_solver.proofs.Running.{unless_all}
use Rattle.framework_solver.specs.Stepping.{EndsInHand, GoesOnBySteps}
use Rattle.framework_solver.proofs.Finding.{unfixed_goals}
use Rattle.framework_solver.proofs.GoingOn.{handed_on, learned_go_on, search_goes_on}
use Rattle.framework_solver.proofs.Joining.{goals_still, turn_run, turn_steps}
use Rattle.framework_solver.proofs.solver.FrameworkSolver.turn.Goals as goal

pub search-requires-clause-unfixed : goal.search-requires-clause-unfixed
search-requires-clause-unfixed c =
    let p = c.args.self.now in
    unfixed_goals (framework_of p.framework) p.solver.log.sides c.args.goals.now c.requires.goals

pub read-requires-clause-goals : goal.read-requires-clause-goals
read-requires-clause-goals c =
    let p = c.args.self.now in
    let s = c.search.new.self in
    goals_still (framework_of p.framework) (framework_of s.framework) p.solver.log s.solver.log c.args.goals.now
    c.in_ok-values.ensures.run.grows (ap framework_of c.in_ok-values.ensures.framework) c.requires.goals

pub returns-in-Model-clause-run : goal.returns-in-Model-clause-run
returns-in-Model-clause-run c =
    let p = c.args.self.now in
    let s = c.search.new.self in
    let f = framework_of p.framework in
    turn_run f (framework_of s.framework) p.solver.log s.solver.log c.read.new.self.solver.log s.solver.pending
    c.read.new.self.solver.pending c.args.budget.now c.search.new.budget c.read.new.budget c.read.result
    (ap framework_of c.in_ok-values.ensures.framework)
    (subst (λ x. HasRun NoSide (ends_in (Ok x)) f p.solver.log s.solver.log s.solver.pending c.args.budget.now
    c.search.new.budget None) c.in-Model.is c.in_ok-values.ensures.run) c.read.ensures.run

pub returns-in_err-values-clause-steps : goal.returns-in_err-values-clause-steps
returns-in_err-values-clause-steps c =
    let p = c.args.self.now in
    let s = c.search.new.self in
    let f = framework_of p.framework in
    handed_on (λ halt. UnlessMemory halt ((own : ℕ) → GoesOnBySteps f own [] p.solver.log s.solver.log))
    c.from_residual.result c.in_err-values.field-0.0 c.from_residual.ensures
    (search_goes_on f p.solver.log s.solver.log (Some c.in_err-values.field-0.0) c.in_err-values.ensures.learns)

pub returns-in_err-values-clause-in_hand : goal.returns-in_err-values-clause-in_hand
returns-in_err-values-clause-in_hand c =
    let s = c.search.new.self in
    handed_on (λ halt. EndsInHand halt s.solver.log s.solver.pending) c.from_residual.result c.in_err-values.field-0.0
    c.from_residual.ensures c.in_err-values.ensures.in_hand

pub returns-in-Model-clause-steps : goal.returns-in-Model-clause-steps
returns-in-Model-clause-steps c =
    let p = c.args.self.now in
    let s = c.search.new.self in
    let f = framework_of p.framework in
    unless_all ((own : ℕ) → GoesOnBySteps f own [] p.solver.log c.read.new.self.solver.log) (halt_of c.read.result)
    (turn_steps f (framework_of s.framework) p.solver.log s.solver.log c.read.new.self.solver.log
    (ap framework_of c.in_ok-values.ensures.framework) c.in_ok-values.ensures.learns c.read.ensures.steps)

pub returns-in-Refuted-clause-steps : goal.returns-in-Refuted-clause-steps
returns-in-Refuted-clause-steps c = λ own.
    let p = c.args.self.now in
    learned_go_on (framework_of p.framework) own p.solver.log c.search.new.self.solver.log c.in_ok-values.ensures.learns
