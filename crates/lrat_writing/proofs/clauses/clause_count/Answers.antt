use Rattle.std.proofs.Common.{ap, ◌∙◌}
use Rattle.hinted_log.specs.Logs.{step_at}
use Rattle.lrat_writing.proofs.PieceLemmas.{cnf_count}
use Rattle.lrat_writing.proofs.clauses.clause_count.Goals as goal

pub returns-clause-count : goal.returns-clause-count
returns-clause-count c =
    let steps = c.args.log.now.steps in
    cnf_count steps c.given_count.result c.clause-last.result.now c.given_count.ensures.count
    (c.clause-last.ensures.clause ∙ ap (λ n. (step_at steps n).clause) (c.new.ensures ∙ c.len.ensures.steps))
