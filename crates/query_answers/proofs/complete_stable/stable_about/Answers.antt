use Rattle.std.proofs.Common.{◌∙◌, ap, sym, subst}
use Rattle.meaning_atoms.specs.declared.atom.Atom.TheVariants.{St}
use Rattle.iccma_tasks.specs.declared.task.Task.{Task}
use Rattle.query_answers.specs.Answers.{IsEvidence}
use Rattle.query_answers.specs.Forms.{evidence_of}
use Rattle.query_answers.proofs.CompleteStableLemmas.{may_ask_about, stable_evidence}
use Rattle.goal_lists.proofs.RunLemmas.{ran_handed}
use Rattle.query_answers.proofs.CallLemmas.{closes_few, for_search, no_memory}
use Rattle.std.specs.Prelude.{Ok, Err}
use Rattle.query_answers.proofs.complete_stable.stable_about.Goals as goal

pub search_query-requires : goal.search_query-requires
search_query-requires g c =
    may_ask_about (g.O.Oracle.framework c.args.oracle.now) (g.O.Oracle.log c.args.oracle.now).sides St c.args.query.now
    c.args.goal tt c.requires.fits c.requires.about

pub returns-clause-shown : goal.returns-clause-shown
returns-clause-shown g c =
    let f = g.O.Oracle.framework c.args.oracle.now in
    subst (IsEvidence f c.args.query.now (g.O.Oracle.log c.search_query.new.oracle))
    (sym (c.in_ok-evidence.ensures
    ∙ ap (λ (t : Task). evidence_of t.problem c.in_ok-found.found) c.task.ensures))
    (stable_evidence f (g.O.Oracle.log c.search_query.new.oracle) c.args.query.now c.args.goal c.args.accepted
    c.in_ok-found.found c.requires c.in_ok-found.ensures.found)

pub returns-in_err-found-clause-ran : goal.returns-in_err-found-clause-ran
returns-in_err-found-clause-ran g c =
    ran_handed _ c.from_residual.ensures (for_search (closes_few (Err c.in_err-found.field-0.0))
    c.in_err-found.ensures.ran)

pub returns-in_err-evidence-clause-ran : goal.returns-in_err-evidence-clause-ran
returns-in_err-evidence-clause-ran g c =
    no_memory _ c.from_residual-in_err-evidence.ensures (for_search (closes_few (Ok c.in_ok-found.found))
    c.in_ok-found.ensures.ran)

pub returns-clause-ran : goal.returns-clause-ran
returns-clause-ran g c = for_search (closes_few (Ok c.in_ok-found.found)) c.in_ok-found.ensures.ran
