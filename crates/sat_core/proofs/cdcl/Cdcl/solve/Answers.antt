use Rattle.std.proofs.Common.{ap}
use Rattle.sat_core.specs.Solving.{SolverState}
use Rattle.sat_core.specs.Turns.{state_of}
use Rattle.sat_core.proofs.Keeping.{derives_logs, derives_trans}
use Rattle.sat_core.proofs.Searching.{run_from, searched_of}
use Rattle.sat_core.proofs.cdcl.Cdcl.solve.Goals as goal

pub returns-in_err-begin-clause-rest : goal.returns-in_err-begin-clause-rest
returns-in_err-begin-clause-rest c = c.in_err-begin.ensures.rest

pub returns-in_err-begin-clause-derives : goal.returns-in_err-begin-clause-derives
returns-in_err-begin-clause-derives c =
    let e = c.in_err-begin.ensures.state in
    derives_logs _ _ (ap (λ (s : SolverState). s.log) e) (ap (λ (s : SolverState). s.active) e)

pub returns-clause-searched : goal.returns-clause-searched
returns-clause-searched c = λ ne. rw c.take_back.ensures.state
    (searched_of (state_of c.args.self.now) c.run-end.new.self c.args.assumptions.now _ _ _ _
    (run_from _ _ _ _ _ _ _ c.in_ok-begin.ensures.state c.run-end.ensures.run)
    c.solved_of-told.ensures ne)

pub returns-clause-derives : goal.returns-clause-derives
returns-clause-derives c =
    let e = c.in_ok-begin.ensures.state in
    rw c.take_back.ensures.state
    (derives_trans _ _ _
    (derives_logs _ _ (ap (λ (s : SolverState). s.log) e) (ap (λ (s : SolverState). s.active) e))
    c.run-end.ensures.derives)
