use Rattle.bench_runs.proofs.rejected.check_reply.Goals as goal

pub returns-in_ok-check-in-Ask-Answered-clause-is : goal.returns-in_ok-check-in-Ask-Answered-clause-is
returns-in_ok-check-in-Ask-Answered-clause-is c =
    rw (c.in-Ask-Answered.is-0, c.in-Ask-Answered.is-1)
    (c.in_ok-check-in-Ask-Answered.field-0, c.in_ok-check-in-Ask-Answered.ensures.verdict, c.rejection.ensures.value)
