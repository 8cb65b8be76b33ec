use Rattle.std.proofs.Common.{arith, ap, ◌∙◌}
use Rattle.std.specs.Prelude.{count_by}
use Rattle.bench_runs.specs.Summaries.{is_told_query}
use Rattle.bench_runs.proofs.CheckLemmas.{told_fits}
use Rattle.bench_runs.proofs.tally.queries_of.Goals as goal

pub overflow_add-total : goal.overflow_add-total
overflow_add-total c =
    let most = told_fits c.args.sessions.now c.loop-replies.replies-index c.replies-item.result c.loop-replies.total
    c.queries_in-total.result c.loop-replies-test.true c.replies-item.is c.loop-replies.invariant
    (c.queries_in-total.ensures ∙ ap (λ replies. count_by (λ reply. is_told_query reply.body) replies)
    c.as_slice.ensures) in
    omega (arith, most, c.requires)
