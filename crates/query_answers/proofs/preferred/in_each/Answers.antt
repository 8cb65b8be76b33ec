use Rattle.std.proofs.Common.{ap, sym, subst}
use Rattle.iccma_tasks.specs.declared.task.Task.{Task}
use Rattle.query_answers.specs.Answers.{IsEvidence}
use Rattle.query_answers.proofs.CallLemmas.{for_all, makes_largest, no_memory}
use Rattle.query_answers.proofs.PreferredLemmas.{sceptical_shown}
use Rattle.goal_lists.proofs.RunLemmas.{ran_handed}
use Rattle.query_answers.proofs.preferred.in_each.Goals as goal

pub accept_all-requires : goal.accept_all-requires
accept_all-requires g c = c.requires.fits.known c.args.goal c.requires.about

pub returns-clause-shown : goal.returns-clause-shown
returns-clause-shown g c =
    let f = g.O.Oracle.framework c.args.oracle.now in
    subst (IsEvidence f c.args.query.now (g.O.Oracle.log c.accept_all.new.oracle)) (sym c.in_ok-evidence.ensures)
    (sceptical_shown f (g.O.Oracle.log c.accept_all.new.oracle) c.args.query.now c.args.goal
    c.in_ok-accepting.accepting c.requires c.in_ok-accepting.ensures.accepting)

pub returns-in_err-accepting-clause-ran : goal.returns-in_err-accepting-clause-ran
returns-in_err-accepting-clause-ran g c =
    ran_handed _ c.from_residual.ensures (for_all (makes_largest _ _ (ap (λ (t : Task). t.semantics) c.requires.same))
    c.in_err-accepting.ensures.ran)

pub returns-in_err-evidence-clause-ran : goal.returns-in_err-evidence-clause-ran
returns-in_err-evidence-clause-ran g c =
    no_memory _ c.from_residual-in_err-evidence.ensures (for_all (makes_largest _ _ (ap (λ
    (t : Task). t.semantics) c.requires.same)) c.in_ok-accepting.ensures.ran)

pub returns-clause-ran : goal.returns-clause-ran
returns-clause-ran g c =
    for_all (makes_largest _ _ (ap (λ (t : Task). t.semantics) c.requires.same)) c.in_ok-accepting.ensures.ran
