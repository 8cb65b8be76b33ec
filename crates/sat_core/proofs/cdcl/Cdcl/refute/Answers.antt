use Rattle.std.proofs.Common.{◌∙◌, ap, subst, IfOk, IfSome}
use Rattle.sat_core.specs.Solving.{SolverState, EndsCore}
use Rattle.sat_core.specs.Turns.{state_of}
use Rattle.sat_core.proofs.Keeping.{derives_logs, derives_trans}
use Rattle.sat_core.proofs.cdcl.Cdcl.refute.Goals as goal

pub returns-in_err-begin-clause-rest : goal.returns-in_err-begin-clause-rest
returns-in_err-begin-clause-rest c = c.in_err-begin.ensures.rest

pub returns-in_err-begin-clause-derives : goal.returns-in_err-begin-clause-derives
returns-in_err-begin-clause-derives c =
    let e = c.in_err-begin.ensures.state in
    derives_logs _ _ (ap (λ (s : SolverState). s.log) e) (ap (λ (s : SolverState). s.active) e)

pub returns-clause-refuted : goal.returns-clause-refuted
returns-clause-refuted c =
    rw c.take_back.ensures.state
    (subst
    (λ (s : SolverState). IfOk c.refute_begun-told.result
    (λ found. IfSome found (EndsCore s (state_of c.refute_begun-told.new.self) c.args.assumptions.now)))
    c.in_ok-begin.ensures.state c.refute_begun-told.ensures.refuted)

pub returns-clause-none : goal.returns-clause-none
returns-clause-none c = λ is_none.
    c.take_back.ensures.state ∙ (c.refute_begun-told.ensures.none is_none ∙ c.in_ok-begin.ensures.state)

pub returns-clause-derives : goal.returns-clause-derives
returns-clause-derives c =
    let e = c.in_ok-begin.ensures.state in
    rw c.take_back.ensures.state
    (derives_trans _ _ _
    (derives_logs _ _ (ap (λ (s : SolverState). s.log) e) (ap (λ (s : SolverState). s.active) e))
    c.refute_begun-told.ensures.derives)
