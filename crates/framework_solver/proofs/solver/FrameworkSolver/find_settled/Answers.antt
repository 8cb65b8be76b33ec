use Rattle.std.proofs.Common.{◌∙◌, ℕ, ap, subst, sym, []}
use Rattle.std.specs.Prelude.{IfOk}
use Rattle.edit_rules.specs.Kinds.{framework_of}
use Rattle.oracle_face.specs.Growing.{HasRun, IsFound, NoSide, closes, halt_of}
use Rattle.session_log.specs.Ends.{LoopInHand}
use Rattle.framework_solver.specs.declared.solver.FrameworkSolver.{FrameworkSolver}
use Rattle.framework_solver.specs.Solvers.{IsWhole}
use Rattle.framework_solver.specs.Stepping.{GoesOnBySteps, out_of_memory_by}
use Rattle.framework_solver.proofs.Joining.{not_out_of_memory, run_settled, settled, settled_in_hand, whole_settled}
use Rattle.framework_solver.proofs.Joining.{without_memory}
use Rattle.framework_solver.proofs.solver.FrameworkSolver.find_settled.Goals as goal

pub returns-clause-whole : goal.returns-clause-whole
returns-clause-whole c =
    let q = c.find-end.new.self in
    let is = c.note_end.ensures.parts ∙ ap (settled q) c.halt_in.ensures in
    subst IsWhole (sym is) (whole_settled q (halt_of c.find-end.result) c.find-end.ensures.whole)

pub returns-clause-framework : goal.returns-clause-framework
returns-clause-framework c =
    let q = c.find-end.new.self in
    let is = c.note_end.ensures.parts ∙ ap (settled q) c.halt_in.ensures in
    ap (λ (r : FrameworkSolver). r.framework) is ∙ c.find-end.ensures.framework

pub returns-clause-found : goal.returns-clause-found
returns-clause-found c =
    let p = c.args.self.now in
    let q = c.find-end.new.self in
    let is = c.note_end.ensures.parts ∙ ap (settled q) c.halt_in.ensures in
    subst (λ (r : FrameworkSolver). IfOk c.find-end.result (IsFound (framework_of p.framework) r.solver.log
    c.args.goals.now)) (sym is)
    c.find-end.ensures.found

pub returns-clause-run : goal.returns-clause-run
returns-clause-run c =
    let p = c.args.self.now in
    let q = c.find-end.new.self in
    let is = c.note_end.ensures.parts ∙ ap (settled q) c.halt_in.ensures in
    let f = framework_of p.framework in
    let halt = halt_of c.find-end.result in
    subst (λ (r : FrameworkSolver). HasRun NoSide (closes c.find-end.result) f p.solver.log r.solver.log
    r.solver.pending
    c.args.budget.now
    c.find-end.new.budget halt) (sym is)
    (run_settled NoSide (closes c.find-end.result) f p.solver.log q.solver.log q.solver.pending c.args.budget.now
    c.find-end.new.budget halt
    c.find-end.ensures.run)

pub returns-clause-kept : goal.returns-clause-kept
returns-clause-kept c = λ so.
    let flag = sym (c.note_end.ensures.out_of_memory ∙ ap (λ h. out_of_memory_by h c.args.out_of_memory.now)
    c.halt_in.ensures) in
    not_out_of_memory (halt_of c.find-end.result) c.args.out_of_memory.now (flag ∙ so)

pub returns-clause-steps : goal.returns-clause-steps
returns-clause-steps c = λ so own.
    let p = c.args.self.now in
    let q = c.find-end.new.self in
    let is = c.note_end.ensures.parts ∙ ap (settled q) c.halt_in.ensures in
    let flag = sym (c.note_end.ensures.out_of_memory ∙ ap (λ h. out_of_memory_by h c.args.out_of_memory.now)
    c.halt_in.ensures) in
    let f = framework_of p.framework in
    subst (λ (r : FrameworkSolver). GoesOnBySteps f own [] p.solver.log r.solver.log) (sym is)
    (without_memory ((own : ℕ) → GoesOnBySteps f own [] p.solver.log q.solver.log) (halt_of c.find-end.result)
    c.args.out_of_memory.now
    (flag ∙ so) c.find-end.ensures.steps own)

pub returns-clause-in_hand : goal.returns-clause-in_hand
returns-clause-in_hand c =
    let q = c.find-end.new.self in
    let is = c.note_end.ensures.parts ∙ ap (settled q) c.halt_in.ensures in
    subst (λ (r : FrameworkSolver). LoopInHand r.solver.log r.solver.pending) (sym is)
    (settled_in_hand q.solver.log q.solver.pending (halt_of c.find-end.result) c.find-end.ensures.in_hand)
