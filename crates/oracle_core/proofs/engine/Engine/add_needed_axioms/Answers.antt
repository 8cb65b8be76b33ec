use Rattle.oracle_core.proofs.engine.Engine.add_needed_axioms.Goals as goal

pub returns-clause-run : goal.returns-clause-run
returns-clause-run c = rw (← c.self.view_is) c.add_needed_axioms.ensures.run

pub returns-clause-steps : goal.returns-clause-steps
returns-clause-steps c = rw (← c.self.view_is) (c.add_needed_axioms.ensures.steps c.self.inside.number)
