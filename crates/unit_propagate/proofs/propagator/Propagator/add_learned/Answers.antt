use Rattle.unit_propagate.proofs.propagator.Propagator.add_learned.Goals as goal

pub add_learned-requires-clause-unit : goal.add_learned-requires-clause-unit
add_learned-requires-clause-unit c = rw (← c.self.view_is) at c.requires
