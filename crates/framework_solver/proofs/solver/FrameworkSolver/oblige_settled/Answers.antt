use Rattle.std.proofs.Common.{◌∙◌, ap, subst, sym, []}
use Rattle.std.specs.Prelude.{IfOk}
use Rattle.edit_rules.specs.Kinds.{framework_of}
use Rattle.oracle_face.specs.Growing.{HasRun, Obliges, OnlySide, halt_of}
use Rattle.session_log.specs.Ends.{LoopInHand}
use Rattle.framework_solver.specs.declared.solver.FrameworkSolver.{FrameworkSolver}
use Rattle.framework_solver.specs.Solvers.{IsWhole}
use Rattle.framework_solver.specs.Stepping.{GoesOnBySteps, out_of_memory_by}
use Rattle.framework_solver.proofs.Joining.{not_out_of_memory, run_settled, settled, settled_in_hand, whole_settled}
use Rattle.framework_solver.proofs.solver.FrameworkSolver.oblige_settled.Goals as goal

pub returns-clause-whole : goal.returns-clause-whole
returns-clause-whole c =
    let q = c.oblige-end.new.self in
    let is = c.note_end.ensures.parts ∙ ap (settled q) c.halt_in.ensures in
    subst IsWhole (sym is) (whole_settled q (halt_of c.oblige-end.result) c.oblige-end.ensures.whole)

pub returns-clause-framework : goal.returns-clause-framework
returns-clause-framework c =
    let q = c.oblige-end.new.self in
    let is = c.note_end.ensures.parts ∙ ap (settled q) c.halt_in.ensures in
    ap (λ (r : FrameworkSolver). r.framework) is ∙ c.oblige-end.ensures.framework

pub returns-clause-obliges : goal.returns-clause-obliges
returns-clause-obliges c =
    let p = c.args.self.now in
    let q = c.oblige-end.new.self in
    let is = c.note_end.ensures.parts ∙ ap (settled q) c.halt_in.ensures in
    subst (λ (r : FrameworkSolver). IfOk c.oblige-end.result (Obliges c.args.side.now p.solver.log r.solver.log)) (sym
    is)
    c.oblige-end.ensures.obliges

pub returns-clause-run : goal.returns-clause-run
returns-clause-run c =
    let p = c.args.self.now in
    let q = c.oblige-end.new.self in
    let is = c.note_end.ensures.parts ∙ ap (settled q) c.halt_in.ensures in
    let f = framework_of p.framework in
    let halt = halt_of c.oblige-end.result in
    subst (λ (r : FrameworkSolver). HasRun (OnlySide c.args.side.now c.args.from.now) 0 f p.solver.log r.solver.log
    r.solver.pending c.args.budget.now
    c.oblige-end.new.budget halt) (sym is)
    (run_settled (OnlySide c.args.side.now c.args.from.now) 0 f p.solver.log q.solver.log q.solver.pending
    c.args.budget.now c.oblige-end.new.budget halt
    c.oblige-end.ensures.run)

pub returns-clause-kept : goal.returns-clause-kept
returns-clause-kept c = λ so.
    let flag = sym (c.note_end.ensures.out_of_memory ∙ ap (λ h. out_of_memory_by h c.args.out_of_memory.now)
    c.halt_in.ensures) in
    not_out_of_memory (halt_of c.oblige-end.result) c.args.out_of_memory.now (flag ∙ so)

pub returns-clause-steps : goal.returns-clause-steps
returns-clause-steps c = λ own.
    let p = c.args.self.now in
    let q = c.oblige-end.new.self in
    let is = c.note_end.ensures.parts ∙ ap (settled q) c.halt_in.ensures in
    subst (λ (r : FrameworkSolver). GoesOnBySteps (framework_of p.framework) own [] p.solver.log r.solver.log) (sym is)
    (c.oblige-end.ensures.steps own)

pub returns-clause-in_hand : goal.returns-clause-in_hand
returns-clause-in_hand c =
    let q = c.oblige-end.new.self in
    let is = c.note_end.ensures.parts ∙ ap (settled q) c.halt_in.ensures in
    subst (λ (r : FrameworkSolver). LoopInHand r.solver.log r.solver.pending) (sym is)
    (settled_in_hand q.solver.log q.solver.pending (halt_of c.oblige-end.result) c.oblige-end.ensures.in_hand)
