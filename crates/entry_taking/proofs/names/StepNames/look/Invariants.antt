use Rattle.std.specs.Prelude.{◌-◌, length}
use Rattle.entry_taking.specs.Names.{AreNamed}
use Rattle.entry_taking.proofs.names.StepNames.look.Given as goal

abbrev pub invariant-loop-self : goal.invariant-loop-self
invariant-loop-self l = AreNamed l.self l.solver.log.steps

abbrev pub decreases-loop-self : goal.decreases-loop-self
decreases-loop-self l = length l.solver.log.steps - l.self.seen
