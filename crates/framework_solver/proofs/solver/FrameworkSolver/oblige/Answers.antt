use Rattle.edit_rules.specs.Kinds.{framework_of}
use Rattle.oracle_face.specs.Growing.{OnlySide}
use Rattle.framework_solver.proofs.Forcing.{whole_with}
use Rattle.framework_solver.proofs.GoingOn.{ends_without_loop, side_goes_on}
use Rattle.framework_solver.proofs.solver.FrameworkSolver.oblige.Goals as goal

pub returns-clause-run : goal.returns-clause-run
returns-clause-run c = c.oblige.ensures.run (framework_of c.args.self.now.framework) c.requires.whole.guarded

pub returns-clause-obliges : goal.returns-clause-obliges
returns-clause-obliges c = c.oblige.ensures.obliges (framework_of c.args.self.now.framework) c.requires.whole.guarded

pub returns-clause-whole : goal.returns-clause-whole
returns-clause-whole c =
    whole_with (OnlySide c.args.side.now c.args.from.now) c.args.self.now c.oblige.new.self c.requires.whole
    (c.oblige.ensures.log (framework_of c.args.self.now.framework) c.requires.whole.guarded)
    (returns-clause-run c).grows

pub returns-clause-steps : goal.returns-clause-steps
returns-clause-steps c = λ own.
    let p = c.args.self.now in
    side_goes_on (framework_of p.framework) own c.args.side.now c.args.from.now p.solver.log c.oblige.new.self.log
    c.oblige.ensures.keeps

pub returns-clause-in_hand : goal.returns-clause-in_hand
returns-clause-in_hand c =
    ends_without_loop c.oblige.new.self.log c.oblige.new.self.pending c.oblige.result c.oblige.ensures.in_hand
