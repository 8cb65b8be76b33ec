use Rattle.std.proofs.Common.{Err, ap, subst, sym, []}
use Rattle.edit_rules.specs.Kinds.{framework_of}
use Rattle.oracle_face.specs.Growing.{NoSide}
use Rattle.framework_solver.specs.Stepping.{GoesOnBySteps}
use Rattle.framework_solver.specs.SteppingLaws.{goes_on_none}
use Rattle.framework_solver.proofs.Finding.{fresh_is_no_step, loop_by_none, loop_facts, loop_fresh}
use Rattle.framework_solver.proofs.Forcing.{whole_with}
use Rattle.framework_solver.proofs.GoingOn.{ends_with_loop, loop_goes_on}
use Rattle.framework_solver.proofs.Joining.{halted_turn}
use Rattle.framework_solver.proofs.solver.FrameworkSolver.take_loop.Goals as goal

pub returns-in_err-take_loop-clause-run : goal.returns-in_err-take_loop-clause-run
returns-in_err-take_loop-clause-run c =
    let p = c.args.self.now in
    let f = framework_of p.framework in
    let goals = c.args.goals.now in
    let values = c.args.values.now in
    let ok = c.requires.model in
    let lacks = c.requires.lacks in
    halted_turn f p.solver.log c.take_loop.new.self.log c.take_loop.new.self.pending c.args.budget.now
    c.take_loop.new.budget c.from_residual.result c.in_err-take_loop.field-0.0 c.from_residual.ensures
    (c.in_err-take_loop.ensures.run f c.requires.whole.guarded lacks.axiom_of
    (loop_fresh f p.solver.log goals values c.args.name ok lacks)
    (loop_facts f p.solver.log goals values c.args.name ok lacks))

pub returns-in_err-take_loop-clause-whole : goal.returns-in_err-take_loop-clause-whole
returns-in_err-take_loop-clause-whole c =
    let p = c.args.self.now in
    let f = framework_of p.framework in
    let goals = c.args.goals.now in
    let values = c.args.values.now in
    let ok = c.requires.model in
    let lacks = c.requires.lacks in
    whole_with NoSide p c.take_loop.new.self c.requires.whole
    (c.take_loop.ensures.log f lacks.axiom_of c.requires.whole.guarded)
    (c.take_loop.ensures.run f c.requires.whole.guarded lacks.axiom_of
    (loop_fresh f p.solver.log goals values c.args.name ok lacks)
    (loop_facts f p.solver.log goals values c.args.name ok lacks)).grows

pub returns-clause-run : goal.returns-clause-run
returns-clause-run c =
    let p = c.args.self.now in
    let f = framework_of p.framework in
    let goals = c.args.goals.now in
    let values = c.args.values.now in
    let ok = c.requires.model in
    let lacks = c.requires.lacks in
    c.in_ok-take_loop.ensures.run f c.requires.whole.guarded lacks.axiom_of
    (loop_fresh f p.solver.log goals values c.args.name ok lacks)
    (loop_facts f p.solver.log goals values c.args.name ok lacks)

pub returns-clause-whole : goal.returns-clause-whole
returns-clause-whole c =
    let p = c.args.self.now in
    let f = framework_of p.framework in
    let goals = c.args.goals.now in
    let values = c.args.values.now in
    let ok = c.requires.model in
    let lacks = c.requires.lacks in
    whole_with NoSide p c.take_loop.new.self c.requires.whole
    (c.take_loop.ensures.log f lacks.axiom_of c.requires.whole.guarded)
    (c.take_loop.ensures.run f c.requires.whole.guarded lacks.axiom_of
    (loop_fresh f p.solver.log goals values c.args.name ok lacks)
    (loop_facts f p.solver.log goals values c.args.name ok lacks)).grows

pub returns-in_err-take_loop-clause-steps : goal.returns-in_err-take_loop-clause-steps
returns-in_err-take_loop-clause-steps c = λ own.
    let p = c.args.self.now in
    let f = framework_of p.framework in
    subst (GoesOnBySteps f own [] p.solver.log) (sym c.in_err-take_loop.ensures.same)
    (goes_on_none f own [] p.solver.log)

pub returns-in_err-take_loop-clause-in_hand : goal.returns-in_err-take_loop-clause-in_hand
returns-in_err-take_loop-clause-in_hand c =
    let p = c.args.self.now in
    let f = framework_of p.framework in
    ends_with_loop p.solver c.take_loop.new.self c.args.name c.in_err-take_loop.field-0.0 c.from_residual.result
    c.from_residual.ensures
    (loop_by_none f p.solver.log c.args.goals.now c.args.values.now c.args.name c.requires.model c.requires.lacks)
    c.in_err-take_loop.ensures.same (λ count e. c.in_err-take_loop.ensures.in_hand count (ap Err e))

pub returns-clause-steps : goal.returns-clause-steps
returns-clause-steps c = λ own.
    let p = c.args.self.now in
    let f = framework_of p.framework in
    let goals = c.args.goals.now in
    let values = c.args.values.now in
    let ok = c.requires.model in
    let lacks = c.requires.lacks in
    let fresh = loop_fresh f p.solver.log goals values c.args.name ok lacks in
    loop_goes_on f own c.args.name p.solver c.take_loop.new.self lacks.axiom_of lacks.loop fresh
    (fresh_is_no_step f p.solver.log c.args.name c.requires.whole.guarded.form c.len-uses.ensures.axioms fresh)
    (loop_by_none f p.solver.log goals values c.args.name ok lacks) c.in_ok-take_loop.ensures.ok
