use Rattle.std.specs.Prelude.{take}
use Rattle.session_log.specs.Imports.{StandForSteps}
use Rattle.entry_taking.proofs.taking.steps_of.Given as goal

abbrev pub invariant-loop-hint : goal.invariant-loop-hint
invariant-loop-hint l = StandForSteps l.own l.solver.log.steps (take l.hint-index l.hints) l.steps
