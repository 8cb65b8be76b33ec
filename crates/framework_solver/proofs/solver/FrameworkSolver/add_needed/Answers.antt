use Rattle.edit_rules.specs.Kinds.{framework_of}
use Rattle.framework_solver.proofs.GoingOn.{gains_go_on}
use Rattle.framework_solver.proofs.solver.FrameworkSolver.add_needed.Goals as goal

pub returns-then-self-clause-steps : goal.returns-then-self-clause-steps
returns-then-self-clause-steps c = λ own.
    let p = c.args.self.now in
    gains_go_on (framework_of p.framework) own p.solver.log c.add_missing.new.self.solver.log
    c.requires.whole.numbered c.add_missing.ensures.gains

pub returns-clause-steps : goal.returns-clause-steps
returns-clause-steps c = λ own.
    let p = c.args.self.now in
    gains_go_on (framework_of p.framework) own p.solver.log c.list_and_add.new.self.solver.log c.requires.whole.numbered
    c.list_and_add.ensures.gains
