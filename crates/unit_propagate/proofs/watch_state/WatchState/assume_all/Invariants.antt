use Rattle.std.proofs.Common.{take}
use Rattle.unit_propagate.specs.States.{state_of, IsKept}
use Rattle.unit_propagate.specs.Steps.{AssumesAll}
use Rattle.unit_propagate.proofs.watch_state.WatchState.assume_all.Given as goal

abbrev pub invariant-loop-lit : goal.invariant-loop-lit
invariant-loop-lit l = record {
  kept : IsKept (state_of l.self);
  assumed : AssumesAll (state_of l.initial.self) (state_of l.self) (take l.lit-index l.lits);
}
