use Rattle.std.proofs.Common.{◌∙◌, ap, sym, subst}
use Rattle.semantics.specs.Frameworks.{Framework}
use Rattle.iccma_tasks.specs.declared.task.Task.{Task}
use Rattle.query_answers.specs.Answers.{IsEvidence, IsSaid}
use Rattle.query_answers.specs.Forms.{ideal_evidence}
use Rattle.query_answers.proofs.CallLemmas.{for_all, makes_ideal, no_memory}
use Rattle.query_answers.proofs.IdealLemmas.{ideal_evidenced}
use Rattle.goal_lists.proofs.RunLemmas.{ran_handed}
use Rattle.query_answers.proofs.ideal.by_ideal_set.Goals as goal

pub returns-clause-shown : goal.returns-clause-shown
returns-clause-shown g c =
    let f = g.O.Oracle.framework c.args.oracle.now in
    let asked = c.args.query.now in
    let log = g.O.Oracle.log c.ideal.new.oracle in
    let found = c.in_ok-found.found in
    let accepts = c.in_ok-accepts.accepts in
    subst (IsEvidence f asked log)
    (sym (c.in_ok-evidence.ensures ∙ ap (λ (t : Task). ideal_evidence t.problem accepts found) c.task.ensures))
    (ideal_evidenced f log asked accepts found c.requires c.number-number.ensures.fits
    (subst (λ (x : Framework). IsSaid x asked.number found.set accepts) c.in_ok-found.ensures.ran.framework
    c.in_ok-accepts.ensures)
    c.in_ok-found.ensures.ideal)

pub returns-in_err-found-clause-ran : goal.returns-in_err-found-clause-ran
returns-in_err-found-clause-ran g c =
    ran_handed _ c.from_residual.ensures (for_all (makes_ideal _ _ c.requires.same) c.in_err-found.ensures.ran)

pub returns-in_err-accepts-clause-ran : goal.returns-in_err-accepts-clause-ran
returns-in_err-accepts-clause-ran g c =
    no_memory _ c.from_residual-in_err-accepts.ensures (for_all (makes_ideal _ _ c.requires.same)
    c.in_ok-found.ensures.ran)

pub returns-in_err-evidence-clause-ran : goal.returns-in_err-evidence-clause-ran
returns-in_err-evidence-clause-ran g c =
    no_memory _ c.from_residual-in_err-evidence.ensures (for_all (makes_ideal _ _ c.requires.same)
    c.in_ok-found.ensures.ran)

pub returns-clause-ran : goal.returns-clause-ran
returns-clause-ran g c = for_all (makes_ideal _ _ c.requires.same) c.in_ok-found.ensures.ran
