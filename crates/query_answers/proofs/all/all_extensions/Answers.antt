use Rattle.std.proofs.Common.{sym, subst}
use Rattle.iccma_tasks.specs.declared.task.Task.{Task}
use Rattle.session_log.specs.Ends.{MadeFor}
use Rattle.oracle_face.proofs.GrowingLemmas.{Makes}
use Rattle.enumerate_block.specs.Extensions.{IsListOf, IsListTask, MadeForAll}
use Rattle.query_answers.specs.Answers.{IsOutcome}
use Rattle.query_answers.proofs.AllLemmas.{all_listed, is_list_task}
use Rattle.query_answers.proofs.CallLemmas.{for_all, makes_all}
use Rattle.goal_lists.proofs.RunLemmas.{ran_handed}
use Rattle.query_answers.proofs.all.all_extensions.Goals as goal

pub all-requires : goal.all-requires
all-requires g c =
    let f = g.O.Oracle.framework c.args.oracle.now in
    subst (IsListTask f) (sym c.task.ensures) (is_list_task f c.args.query.now c.requires)

pub returns-clause-outcome : goal.returns-clause-outcome
returns-clause-outcome g c =
    let f = g.O.Oracle.framework c.args.oracle.now in
    let asked = c.args.query.now in
    let log = g.O.Oracle.log c.all.new.oracle in
    subst (IsOutcome f asked c.args.most log) (sym c.outcome_of.ensures)
    (all_listed f log asked c.args.most c.in_ok-extensions.extensions c.requires c.number-number.ensures.fits
    (subst (λ (t : Task). IsListOf f log t.semantics c.args.most c.in_ok-extensions.extensions) c.task.ensures
    c.in_ok-extensions.ensures.listed))

pub returns-in_err-extensions-clause-ran : goal.returns-in_err-extensions-clause-ran
returns-in_err-extensions-clause-ran g c =
    let f = g.O.Oracle.framework c.args.oracle.now in
    let asked = c.args.query.now in
    let makes : Makes (MadeForAll f c.task.result.semantics) (MadeFor f asked) = subst
    (λ (t : Task). Makes (MadeForAll f t.semantics) (MadeFor f asked)) (sym c.task.ensures)
    (makes_all f asked c.requires.all) in
    ran_handed _ c.from_residual.ensures (for_all makes c.in_err-extensions.ensures.ran)

pub returns-clause-ran : goal.returns-clause-ran
returns-clause-ran g c =
    let f = g.O.Oracle.framework c.args.oracle.now in
    let asked = c.args.query.now in
    let makes : Makes (MadeForAll f c.task.result.semantics) (MadeFor f asked) = subst
    (λ (t : Task). Makes (MadeForAll f t.semantics) (MadeFor f asked)) (sym c.task.ensures)
    (makes_all f asked c.requires.all) in
    for_all makes c.in_ok-extensions.ensures.ran
