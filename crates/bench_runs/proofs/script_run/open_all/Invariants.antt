use Rattle.std.specs.Prelude.{length}
use Rattle.bench_runs.proofs.OpenLemmas.{IsOpening}
use Rattle.bench_runs.proofs.script_run.open_all.Given as goal

abbrev pub invariant-loop-alloc : goal.invariant-loop-alloc
invariant-loop-alloc l = IsOpening l.hub l.runners.items l.left.items

abbrev pub decreases-loop-alloc : goal.decreases-loop-alloc
decreases-loop-alloc l = length l.left.items
