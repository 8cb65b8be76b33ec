use Rattle.std.proofs.Common.{ℕ, subst, None, Ok, Some, []}
use Rattle.edit_rules.specs.Kinds.{framework_of}
use Rattle.oracle_face.specs.Growing.{HasRun, NoSide, UnlessMemory, halt_of}
use Rattle.atom_solver.proofs.Running.{unless_all}
use Rattle.framework_solver.specs.Readings.{closes_turn}
use Rattle.framework_solver.specs.Stepping.{EndsInHand, GoesOnBySteps}
use Rattle.framework_solver.proofs.GoingOn.{handed_on, none_in_hand}
use Rattle.framework_solver.proofs.Joining.{closes_found, halted, turned_first, turned_goals, turned_more, turned_run}
use Rattle.framework_solver.proofs.Joining.{turned_steps}
use Rattle.framework_solver.proofs.solver.FrameworkSolver.find.Goals as goal

pub returns-in_err-add_needed_axioms-clause-run : goal.returns-in_err-add_needed_axioms-clause-run
returns-in_err-add_needed_axioms-clause-run c =
    halted _ _ _ _ c.args.budget.now c.args.budget.now c.from_residual.result c.in_err-add_needed_axioms.field-0.0
    c.from_residual.ensures (c.in_err-add_needed_axioms.ensures.run c.args.budget.now)

pub returns-in_err-add_needed_axioms-clause-steps : goal.returns-in_err-add_needed_axioms-clause-steps
returns-in_err-add_needed_axioms-clause-steps c =
    let p = c.args.self.now in
    let t = c.add_needed_axioms.new.self in
    let f = framework_of p.framework in
    unless_all ((own : ℕ) → GoesOnBySteps f own [] p.solver.log t.solver.log) (halt_of c.from_residual.result)
    c.in_err-add_needed_axioms.ensures.steps

pub returns-in_err-add_needed_axioms-clause-in_hand : goal.returns-in_err-add_needed_axioms-clause-in_hand
returns-in_err-add_needed_axioms-clause-in_hand c =
    let p = c.args.self.now in
    let t = c.add_needed_axioms.new.self in
    handed_on (λ halt. EndsInHand halt t.solver.log t.solver.pending) c.from_residual.result
    c.in_err-add_needed_axioms.field-0.0
    c.from_residual.ensures
    (none_in_hand (framework_of p.framework) p.solver.log t.solver.log t.solver.pending
    c.in_err-add_needed_axioms.field-0.0
    c.in_err-add_needed_axioms.ensures.run)

pub models-init : goal.models-init
models-init c =
    turned_first c.args.self.now c.add_needed_axioms.new.self c.args.budget.now c.in_ok-add_needed_axioms.ensures.whole
    c.in_ok-add_needed_axioms.ensures.framework c.in_ok-add_needed_axioms.ensures.in_force
    (c.in_ok-add_needed_axioms.ensures.run c.args.budget.now) c.in_ok-add_needed_axioms.ensures.steps

pub turn-requires-clause-goals : goal.turn-requires-clause-goals
turn-requires-clause-goals c =
    turned_goals c.args.self.now c.models.self c.args.budget.now c.models.budget c.args.goals.now c.models.invariant
    c.requires.goals

pub returns-in_err-found-clause-run : goal.returns-in_err-found-clause-run
returns-in_err-found-clause-run c =
    let first = c.args.self.now in
    let next = c.turn.new.self in
    halted (framework_of first.framework) first.solver.log next.solver.log next.solver.pending c.args.budget.now
    c.turn.new.budget c.from_residual-in_err-found.result c.in_err-found.field-0.0 c.from_residual-in_err-found.ensures
    (turned_run first c.models.self next c.args.budget.now c.models.budget c.turn.new.budget c.models.invariant
    c.in_err-found.ensures.framework 0 (Some c.in_err-found.field-0.0) c.in_err-found.ensures.run)

pub returns-in-Some-clause-run : goal.returns-in-Some-clause-run
returns-in-Some-clause-run c =
    let first = c.args.self.now in
    let now = c.models.self in
    let next = c.turn.new.self in
    let found = c.in-Some.found in
    let run = subst (λ x. HasRun NoSide (closes_turn (Ok x)) (framework_of now.framework) now.solver.log next.solver.log
    next.solver.pending c.models.budget c.turn.new.budget None) c.in-Some.is c.in_ok-found.ensures.run in
    subst (λ n. HasRun NoSide n (framework_of first.framework) first.solver.log next.solver.log next.solver.pending
    c.args.budget.now c.turn.new.budget None) (closes_found found)
    (turned_run first now next c.args.budget.now c.models.budget c.turn.new.budget c.models.invariant
    c.in_ok-found.ensures.framework (closes_turn (Ok (Some found))) None run)

pub models-preserved : goal.models-preserved
models-preserved c =
    let first = c.args.self.now in
    let now = c.models.self in
    let next = c.turn.new.self in
    let run = subst (λ x. HasRun NoSide (closes_turn (Ok x)) (framework_of now.framework) now.solver.log next.solver.log
    next.solver.pending c.models.budget c.turn.new.budget None) c.in-None.is c.in_ok-found.ensures.run in
    turned_more first now next c.args.budget.now c.models.budget c.turn.new.budget c.models.invariant
    c.in_ok-found.ensures.framework c.in_ok-found.ensures.whole run c.in_ok-found.ensures.steps

pub returns-in_err-found-clause-steps : goal.returns-in_err-found-clause-steps
returns-in_err-found-clause-steps c =
    let first = c.args.self.now in
    let next = c.turn.new.self in
    handed_on (λ halt. UnlessMemory halt ((own : ℕ) → GoesOnBySteps (framework_of first.framework) own []
    first.solver.log next.solver.log)) c.from_residual-in_err-found.result c.in_err-found.field-0.0
    c.from_residual-in_err-found.ensures
    (turned_steps first c.models.self next c.args.budget.now c.models.budget c.turn.new.budget c.models.invariant
    c.in_err-found.ensures.framework (Some c.in_err-found.field-0.0) c.in_err-found.ensures.steps)

pub returns-in_err-found-clause-in_hand : goal.returns-in_err-found-clause-in_hand
returns-in_err-found-clause-in_hand c =
    let next = c.turn.new.self in
    handed_on (λ halt. EndsInHand halt next.solver.log next.solver.pending) c.from_residual-in_err-found.result
    c.in_err-found.field-0.0 c.from_residual-in_err-found.ensures c.in_err-found.ensures.in_hand

pub returns-in-Some-clause-steps : goal.returns-in-Some-clause-steps
returns-in-Some-clause-steps c =
    turned_steps c.args.self.now c.models.self c.turn.new.self c.args.budget.now c.models.budget c.turn.new.budget
    c.models.invariant c.in_ok-found.ensures.framework None c.in_ok-found.ensures.steps
