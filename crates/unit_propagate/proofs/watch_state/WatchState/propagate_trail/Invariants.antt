use Rattle.std.proofs.Common.{◌≡◌, ◌-◌}
use Rattle.unit_propagate.specs.States.{state_of, IsKept}
use Rattle.unit_propagate.specs.Steps.{Grows}
use Rattle.unit_propagate.proofs.watch_state.WatchState.propagate_trail.Given as goal

abbrev pub invariant-lits : goal.invariant-lits
invariant-lits l = record {
  kept : IsKept (state_of l.self);
  grown : Grows (state_of l.initial.self) (state_of l.self);
  done_same : l.self.done ≡ l.initial.self.done;
}

abbrev pub decreases-lits : goal.decreases-lits
decreases-lits l = l.self.trail.vars - l.self.head
