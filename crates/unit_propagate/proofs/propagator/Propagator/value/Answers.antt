use Rattle.unit_propagate.proofs.propagator.Propagator.value.Goals as goal

pub returns-clause-value : goal.returns-clause-value
returns-clause-value c = rw (← c.self.view_is) c.value.ensures.value
