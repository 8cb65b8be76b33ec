use Rattle.std.proofs.Common.{arith}
use Rattle.bench_runs.proofs.LeaveLemmas.{leaving_taken}
use Rattle.bench_runs.proofs.script_run.leave_all.Goals as goal

pub loop-runners-preserved : goal.loop-runners-preserved
loop-runners-preserved c =
    let whole = c.loop-runners.runners.ok in
    let shorter = c.remove-runner.ensures.len in
    leaving_taken c.args.runners.items c.loop-runners.runners.items c.remove-runner.new.self.items
    c.remove-runner.result c.loop-runners.left c.take.new.self (omega (arith, whole, shorter))
    c.remove-runner.ensures.value c.remove-runner.ensures.by_index.2 c.in_ok-take.ensures c.loop-runners.invariant
