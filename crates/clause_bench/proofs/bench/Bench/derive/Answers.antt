use Rattle.std.proofs.Common.{refl, sym}
use Rattle.clause_bench.proofs.BenchLemmas.{kept, pushed_row, bench_more, view_more}
use Rattle.clause_bench.proofs.BenchLemmas.{clause_room, clauses_same, taken_over, not_taken}
use Rattle.clause_bench.proofs.bench.Bench.derive.Goals as goal

pub invariant_of-self : goal.invariant_of-self
invariant_of-self c =
    kept _ _ _ _ _ _ _ c.prepare.ensures.grown c.prepare.ensures.idle c.prepare.ensures.more c.self.invariant

pub check-requires-clause-clause_room : goal.check-requires-clause-clause_room
check-requires-clause-clause_room c =
    clause_room _ _ _ _ _ c.in_ok-prepare.ensures.spelled c.in_ok-prepare.ensures.room c.as_slice.ensures.value

pub check-requires-clause-room : goal.check-requires-clause-room
check-requires-clause-room c =
    (kept _ _ _ _ _ _ _ c.prepare.ensures.grown c.prepare.ensures.idle c.prepare.ensures.more c.self.invariant).room

pub invariant_of-self-in-Err : goal.invariant_of-self-in-Err
invariant_of-self-in-Err c =
    rw (c.check.ensures.lits, c.check.ensures.vars) (kept _ _ _ _ _ _ _ c.prepare.ensures.grown
    (sym c.self.invariant.idle) c.prepare.ensures.more c.self.invariant)

pub returns-in-Err : goal.returns-in-Err
returns-in-Err c =
    rw (← c.self.view_is) (
      not_taken _ _ _ _ (taken_over _ _ _ _ _ c.args.clause.now c.args.hints.now _ _ c.prepare.ensures.grown
          c.in_ok-prepare.ensures.different c.self.invariant.known c.in_ok-prepare.ensures.spelled
          c.as_slice.ensures.value refl c.in-Err.ensures.outcome),
      clauses_same _ _ _ c.prepare.ensures.grown c.self.invariant.known,
    )

pub invariant_of-self-in_err-push-in-Ok : goal.invariant_of-self-in_err-push-in-Ok
invariant_of-self-in_err-push-in-Ok c =
    rw (c.in_err-push-in-Ok.ensures.err, c.check.ensures.lits, c.check.ensures.vars) (kept _ _ _ _ _ _ _
    c.prepare.ensures.grown (sym c.self.invariant.idle) c.prepare.ensures.more c.self.invariant)

pub invariant_of-self-in-Ok : goal.invariant_of-self-in-Ok
invariant_of-self-in-Ok c =
    rw (c.check.ensures.lits, c.check.ensures.vars) (
    bench_more _ _ _ _ c.args.clause.now _ _ (kept _ _ _ _ _ _ _ c.prepare.ensures.grown
    (sym c.self.invariant.idle) c.prepare.ensures.more c.self.invariant)
    c.in_ok-prepare.ensures.spelled c.in_ok-prepare.ensures.room
    (pushed_row _ _ _ _ _ c.in_ok-push-in-Ok.ensures.ok c.as_slice-in-Ok.ensures.value c.in_ok-prepare.ensures.packed)
    )

pub returns-in_ok-push-in-Ok : goal.returns-in_ok-push-in-Ok
returns-in_ok-push-in-Ok c =
    rw (← c.self.view_is) (
      (
        c.in-Ok.field-0,
        taken_over _ _ _ _ _ c.args.clause.now c.args.hints.now _ _ c.prepare.ensures.grown
            c.in_ok-prepare.ensures.different c.self.invariant.known c.in_ok-prepare.ensures.spelled
            c.as_slice.ensures.value refl c.in-Ok.ensures.outcome,
      ),
      view_more _ _ _ _ _ _ c.prepare.ensures.grown c.self.invariant.known c.in_ok-prepare.ensures.spelled
          (pushed_row _ _ _ _ _ c.in_ok-push-in-Ok.ensures.ok c.as_slice-in-Ok.ensures.value
          c.in_ok-prepare.ensures.packed),
    )
