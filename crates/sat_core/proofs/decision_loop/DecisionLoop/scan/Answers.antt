use Rattle.sat_core.proofs.decision_loop.DecisionLoop.scan.Goals as goal

pub returns-in-Some-clause-found : goal.returns-in-Some-clause-found
returns-in-Some-clause-found c = c.in-Some.ensures.either _

pub returns-in-Some-first_unset-clause-found : goal.returns-in-Some-first_unset-clause-found
returns-in-Some-first_unset-clause-found c = c.in-Some-first_unset.ensures.either _
