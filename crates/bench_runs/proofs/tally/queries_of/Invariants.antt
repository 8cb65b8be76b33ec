use Rattle.std.proofs.Common.{◌≡◌}
use Rattle.std.specs.Prelude.{take}
use Rattle.bench_runs.specs.Summaries.{queries_told}
use Rattle.bench_runs.proofs.tally.queries_of.Given as goal

abbrev pub invariant-loop-replies : goal.invariant-loop-replies
invariant-loop-replies l = l.total ≡ queries_told (take l.replies-index l.sessions)
