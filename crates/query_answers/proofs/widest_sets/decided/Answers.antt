use Rattle.std.proofs.Common.{ap, sym, subst, ◌∙◌}
use Rattle.iccma_tasks.specs.declared.task.Task.{Task}
use Rattle.query_answers.specs.Answers.{IsEvidence, problem_of}
use Rattle.query_answers.specs.Forms.{decided_evidence}
use Rattle.query_answers.proofs.CallLemmas.{for_all, makes_widest, no_memory}
use Rattle.query_answers.proofs.WidestLemmas.{about_abstract, about_member, about_shown}
use Rattle.goal_lists.proofs.RunLemmas.{ran_handed}
use Rattle.query_answers.proofs.widest_sets.decided.Goals as goal

pub decide-requires-clause-kind : goal.decide-requires-clause-kind
decide-requires-clause-kind g c =
    about_abstract c.args.mode (g.O.Oracle.framework c.args.oracle.now) c.args.query.now
    (problem_of c.args.accepted) c.args.goal c.requires

pub decide-requires-clause-goal : goal.decide-requires-clause-goal
decide-requires-clause-goal g c =
    about_member c.args.mode (g.O.Oracle.framework c.args.oracle.now) c.args.query.now
    (problem_of c.args.accepted) c.args.goal c.requires

pub returns-clause-shown : goal.returns-clause-shown
returns-clause-shown g c =
    let f = g.O.Oracle.framework c.args.oracle.now in
    subst (IsEvidence f c.args.query.now (g.O.Oracle.log c.decide.new.oracle))
    (sym (c.in_ok-evidence.ensures
    ∙ ap (λ (t : Task). decided_evidence t.problem c.in_ok-deciding.deciding) c.task.ensures))
    (about_shown c.args.mode f (g.O.Oracle.log c.decide.new.oracle) c.args.query.now c.args.goal c.args.accepted
    c.in_ok-deciding.deciding c.requires c.in_ok-deciding.ensures.decided)

pub returns-in_err-deciding-clause-ran : goal.returns-in_err-deciding-clause-ran
returns-in_err-deciding-clause-ran g c =
    ran_handed _ c.from_residual.ensures
    (for_all (makes_widest _ _ c.args.mode _ c.requires.same) c.in_err-deciding.ensures.ran)

pub returns-in_err-evidence-clause-ran : goal.returns-in_err-evidence-clause-ran
returns-in_err-evidence-clause-ran g c =
    no_memory _ c.from_residual-in_err-evidence.ensures
    (for_all (makes_widest _ _ c.args.mode _ c.requires.same) c.in_ok-deciding.ensures.ran)

pub returns-clause-ran : goal.returns-clause-ran
returns-clause-ran g c = for_all (makes_widest _ _ c.args.mode _ c.requires.same) c.in_ok-deciding.ensures.ran
