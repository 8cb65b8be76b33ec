use Rattle.std.proofs.Common.{◌≤◌, length}
use Rattle.unit_propagate.specs.Steps.{LowersProgress}
use Rattle.unit_propagate.proofs.adding.lower_progress.Given as goal

abbrev pub invariant-levels : goal.invariant-levels
invariant-levels l = record {
  within : l.level ≤ length l.starts;
  lowered : LowersProgress l.initial.progress.items l.progress.items l.starts l.level l.index;
}

abbrev pub decreases-levels : goal.decreases-levels
decreases-levels l = l.level
