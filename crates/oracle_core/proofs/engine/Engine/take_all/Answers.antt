use Rattle.oracle_core.proofs.engine.Engine.take_all.Goals as goal

pub returns-clause-all : goal.returns-clause-all
returns-clause-all g c = rw (← c.self.view_is) c.take_all.ensures.all

pub returns-clause-run : goal.returns-clause-run
returns-clause-run g c = rw (← c.self.view_is) c.take_all.ensures.run

pub returns-clause-steps : goal.returns-clause-steps
returns-clause-steps g c = rw (← c.self.view_is) c.take_all.ensures.steps
