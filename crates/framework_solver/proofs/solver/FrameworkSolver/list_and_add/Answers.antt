use Rattle.std.proofs.Common.{arith}
use Rattle.oracle_face.specs.Growing.{halt_of}
use Rattle.framework_solver.proofs.Joining.{listed_gains, listed_run}
use Rattle.framework_solver.proofs.solver.FrameworkSolver.list_and_add.Goals as goal

pub add_all-requires-clause-empty : goal.add_all-requires-clause-empty
add_all-requires-clause-empty c =
    let is = c.len.ensures.len in
    let none = c.if-len-gt0.false in
    omega (arith, is, none)

pub returns-then-len-gt0-clause-run : goal.returns-then-len-gt0-clause-run
returns-then-len-gt0-clause-run c = λ units.
    listed_run c.args.self.now c.list_needed.new.self c.add_missing.new.self.solver.log
    c.add_missing.new.self.solver.pending units units (halt_of c.add_missing.result)
    c.in_ok-list_needed.ensures.framework c.in_ok-list_needed.ensures.solver (c.add_missing.ensures.run units)

pub returns-clause-run : goal.returns-clause-run
returns-clause-run c = λ units.
    listed_run c.args.self.now c.list_needed.new.self c.add_all.new.self.solver.log
    c.add_all.new.self.solver.pending units units (halt_of c.add_all.result) c.in_ok-list_needed.ensures.framework
    c.in_ok-list_needed.ensures.solver (c.add_all.ensures.run units)

pub returns-clause-gains : goal.returns-clause-gains
returns-clause-gains c =
    listed_gains c.args.self.now c.list_needed.new.self c.add_all.new.self.solver.log
    c.in_ok-list_needed.ensures.framework c.in_ok-list_needed.ensures.solver c.add_all.ensures.gains
