use Rattle.std.specs.Prelude.{take}
use Rattle.oracle_core.specs.Sharing.{AreNamesOf}
use Rattle.oracle_core.proofs.sharing.step_references.Given as goal

abbrev pub invariant-loop-step : goal.invariant-loop-step
invariant-loop-step l = AreNamesOf l.own l.solver.log.steps (take l.step-index l.steps) l.names
