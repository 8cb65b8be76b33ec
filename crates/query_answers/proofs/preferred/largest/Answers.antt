use Rattle.std.proofs.Common.{◌∙◌, ap, sym, subst}
use Rattle.iccma_tasks.specs.declared.task.Task.{Task}
use Rattle.query_answers.specs.Answers.{IsEvidence}
use Rattle.query_answers.specs.Forms.{evidence_with}
use Rattle.query_answers.proofs.CallLemmas.{for_one, makes_largest, no_memory}
use Rattle.query_answers.proofs.PreferredLemmas.{largest_evidence}
use Rattle.goal_lists.proofs.RunLemmas.{ran_handed}
use Rattle.query_answers.proofs.preferred.largest.Goals as goal

pub returns-clause-shown : goal.returns-clause-shown
returns-clause-shown g c =
    let f = g.O.Oracle.framework c.args.oracle.now in
    let found = c.in_ok-maximal.maximal in
    subst (IsEvidence f c.args.query.now (g.O.Oracle.log c.maximal_from.new.oracle))
    (sym (c.in_ok-evidence.ensures
    ∙ ap (λ (t : Task). evidence_with t.problem found.set found.refutation) c.task.ensures))
    (largest_evidence f (g.O.Oracle.log c.maximal_from.new.oracle) c.args.query.now c.args.set.now found c.requires
    c.in_ok-maximal.ensures.maximal)

pub returns-in_err-maximal-clause-ran : goal.returns-in_err-maximal-clause-ran
returns-in_err-maximal-clause-ran g c =
    ran_handed _ c.from_residual.ensures (for_one (makes_largest _ _ c.requires.same) c.in_err-maximal.ensures.ran)

pub returns-in_err-evidence-clause-ran : goal.returns-in_err-evidence-clause-ran
returns-in_err-evidence-clause-ran g c =
    no_memory _ c.from_residual-in_err-evidence.ensures (for_one (makes_largest _ _ c.requires.same)
    c.in_ok-maximal.ensures.ran)

pub returns-clause-ran : goal.returns-clause-ran
returns-clause-ran g c = for_one (makes_largest _ _ c.requires.same) c.in_ok-maximal.ensures.ran
