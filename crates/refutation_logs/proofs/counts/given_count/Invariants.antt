use Rattle.std.proofs.Common.{◌≡◌, ◌≤◌, take}
use Rattle.std.specs.Prelude.{sum_by}
use Rattle.refutation_logs.specs.Counts.{step_count}
use Rattle.refutation_logs.proofs.counts.given_count.Given as goal

abbrev pub invariant-loop-step : goal.invariant-loop-step
invariant-loop-step l = record {
  counted : l.count ≡ sum_by step_count (take l.step-index l.steps);
  few : l.count ≤ l.step-index;
}
