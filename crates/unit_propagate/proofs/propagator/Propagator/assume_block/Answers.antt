use Rattle.unit_propagate.proofs.propagator.Propagator.assume_block.Goals as goal

pub assume_block-requires-clause-not_false : goal.assume_block-requires-clause-not_false
assume_block-requires-clause-not_false c = rw (← c.self.view_is) at c.requires.not_false
