use Rattle.oracle_core.proofs.engine.Engine.update.Goals as goal

pub returns-clause-gains : goal.returns-clause-gains
returns-clause-gains c = rw (← c.self.view_is) c.update.ensures.gains
