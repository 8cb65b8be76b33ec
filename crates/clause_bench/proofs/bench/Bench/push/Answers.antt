use Rattle.clause_bench.proofs.BenchLemmas.{kept, pushed_row, bench_more, view_more}
use Rattle.clause_bench.proofs.bench.Bench.push.Goals as goal

pub invariant_of-self : goal.invariant_of-self
invariant_of-self c =
    kept _ _ _ _ _ _ _ c.prepare.ensures.grown c.prepare.ensures.idle c.prepare.ensures.more c.self.invariant

pub invariant_of-self-in_err-push : goal.invariant_of-self-in_err-push
invariant_of-self-in_err-push c = rw c.in_err-push.ensures.err
    (kept _ _ _ _ _ _ _ c.prepare.ensures.grown c.prepare.ensures.idle c.prepare.ensures.more c.self.invariant)

pub invariant_of-self-2 : goal.invariant_of-self-2
invariant_of-self-2 c =
    bench_more _ _ _ _ c.args.clause.now _ _ (kept _ _ _ _ _ _ _ c.prepare.ensures.grown c.prepare.ensures.idle
    c.prepare.ensures.more c.self.invariant) c.in_ok-prepare.ensures.spelled c.in_ok-prepare.ensures.room
    (pushed_row _ _ _ _ _ c.in_ok-push.ensures.ok c.as_slice.ensures.value c.in_ok-prepare.ensures.packed)

pub returns : goal.returns
returns c =
    rw (← c.self.view_is) (
    view_more _ _ _ _ _ _ c.prepare.ensures.grown c.self.invariant.known c.in_ok-prepare.ensures.spelled
    (pushed_row _ _ _ _ _ c.in_ok-push.ensures.ok c.as_slice.ensures.value c.in_ok-prepare.ensures.packed)
    )
