use Rattle.std.proofs.Common.{◌≡◌, length}
use Rattle.sat_core.specs.Turns.{state_of, IsKept, Runs}
use Rattle.sat_core.proofs.cdcl.Cdcl.turn.Given as goal

abbrev pub invariant-sleepers : goal.invariant-sleepers
invariant-sleepers l = record {
  kept : IsKept l.self;
  run : Runs l.assumptions l.self;
  state : state_of l.self ≡ state_of l.initial.self;
  used : l.budget.used ≡ l.initial.budget.used;
  limit : l.budget.limit ≡ l.initial.budget.limit;
}

abbrev pub decreases-sleepers : goal.decreases-sleepers
decreases-sleepers l = length l.self.logged.asleep.items
