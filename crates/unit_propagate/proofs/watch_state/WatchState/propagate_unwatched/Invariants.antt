use Rattle.std.proofs.Common.{◌-◌, length}
use Rattle.unit_propagate.specs.States.{state_of, IsKept}
use Rattle.unit_propagate.specs.Steps.{Grows}
use Rattle.unit_propagate.proofs.watch_state.WatchState.propagate_unwatched.Given as goal

abbrev pub invariant-shorts : goal.invariant-shorts
invariant-shorts l = record {
  kept : IsKept (state_of l.self);
  grown : Grows (state_of l.initial.self) (state_of l.self);
}

abbrev pub decreases-shorts : goal.decreases-shorts
decreases-shorts l = length l.self.short.items - l.self.done
