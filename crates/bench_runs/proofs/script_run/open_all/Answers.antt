use Rattle.std.proofs.Common.{arith}
use Rattle.bench_runs.proofs.OpenLemmas.{opening_taken}
use Rattle.bench_runs.proofs.script_run.open_all.Goals as goal

pub loop-alloc-preserved : goal.loop-alloc-preserved
loop-alloc-preserved c =
    let whole = c.loop-alloc.left.ok in
    let shorter = c.remove-seat.ensures.len in
    let opened = c.in_ok-open.ensures in
    opening_taken c.args.hub.now c.loop-alloc.runners.items c.push.new.self.items c.loop-alloc.left.items
    c.remove-seat.new.self.items c.remove-seat.result c.in_ok-open.field-0 (omega (arith, whole, shorter))
    c.remove-seat.ensures.value c.remove-seat.ensures.by_index.2 c.in_ok-push.ensures.items c.loop-alloc.invariant
    opened.served opened.number
