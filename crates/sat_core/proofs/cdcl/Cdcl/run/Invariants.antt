use Rattle.std.proofs.Common.{◌≡◌, ℕ, ◌+◌, ◌-◌}
use Rattle.sat_core.specs.Solving.{Learns, Derives}
use Rattle.sat_core.specs.Turns.{state_of, IsKept, Runs}
use Rattle.sat_core.proofs.cdcl.Cdcl.run.Given as goal

abbrev pub invariant-conflicts : goal.invariant-conflicts
invariant-conflicts l = record {
  kept : IsKept l.self;
  run : Runs l.assumptions l.self;
  learns : (count : ℕ) × Learns l.assumptions (state_of l.initial.self) (state_of l.self) count
      × (l.budget.used ≡ l.initial.budget.used + count);
  derives : Derives (state_of l.initial.self) (state_of l.self);
  limit : l.budget.limit ≡ l.initial.budget.limit;
}

abbrev pub decreases-conflicts : goal.decreases-conflicts
decreases-conflicts l = l.budget.limit - l.budget.used
