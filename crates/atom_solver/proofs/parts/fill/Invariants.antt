use Rattle.std.specs.Prelude.{◌-◌, length}
use Rattle.atom_solver.specs.Inner.{IsFilled}
use Rattle.atom_solver.proofs.parts.fill.Given as goal

abbrev pub invariant-loop-origins : goal.invariant-loop-origins
invariant-loop-origins l = IsFilled l.fn.origins.items l.origins.items l.steps

abbrev pub decreases-loop-origins : goal.decreases-loop-origins
decreases-loop-origins l = l.steps - length l.origins.items
