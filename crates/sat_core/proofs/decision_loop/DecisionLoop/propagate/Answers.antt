use Rattle.sat_core.proofs.Descending.{on_grown}
use Rattle.sat_core.proofs.Running.{front_grown}
use Rattle.sat_core.proofs.decision_loop.DecisionLoop.propagate.Goals as goal

pub returns-in-Conflict-clause-on : goal.returns-in-Conflict-clause-on
returns-in-Conflict-clause-on c = on_grown _ _ c.vars-form.ensures.form c.in-Conflict.ensures.grown

pub returns-in-Quiet-clause-on : goal.returns-in-Quiet-clause-on
returns-in-Quiet-clause-on c = on_grown _ _ c.vars-form.ensures.form c.in-Quiet.ensures.grown

pub returns-in-Conflict-clause-fronted : goal.returns-in-Conflict-clause-fronted
returns-in-Conflict-clause-fronted c = λ front some f.
    front_grown front _ _ c.vars-form.ensures.form some c.in-Conflict.ensures.grown f

pub returns-in-Quiet-clause-fronted : goal.returns-in-Quiet-clause-fronted
returns-in-Quiet-clause-fronted c = λ front some f.
    front_grown front _ _ c.vars-form.ensures.form some c.in-Quiet.ensures.grown f
