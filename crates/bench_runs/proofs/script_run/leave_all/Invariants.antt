use Rattle.std.specs.Prelude.{length}
use Rattle.bench_runs.specs.Finishing.{IsLeaving}
use Rattle.bench_runs.proofs.script_run.leave_all.Given as goal

abbrev pub invariant-loop-runners : goal.invariant-loop-runners
invariant-loop-runners l = IsLeaving l.fn.runners.items l.runners.items l.left

abbrev pub decreases-loop-runners : goal.decreases-loop-runners
decreases-loop-runners l = length l.runners.items
