use Rattle.std.proofs.Common.{ap, ◌∙◌, arith}
use Rattle.hinted_log.specs.Logs.{step_at}
use Rattle.lrat_writing.proofs.write.write_log.Goals as goal

pub finish-requires-clause-few : goal.finish-requires-clause-few
finish-requires-clause-few c =
    let all = c.in_ok-push_log.ensures.steps.all in
    let within = c.len.ensures.form.within in
    let small = c.len.ensures.form.small in
    omega (arith, all, within, small)

pub returns : goal.returns
returns c = c.in_ok-written.ensures c.args.log.now.steps c.in_ok-push_log.ensures.steps
    (c.in_ok-push_log.ensures.count ∙ c.new-writer.ensures.count ∙ c.clause_count.ensures.count)
    (c.clause.ensures.clause
    ∙ ap (λ n. (step_at c.args.log.now.steps n).clause) (c.new-last.ensures ∙ c.len.ensures.steps))
