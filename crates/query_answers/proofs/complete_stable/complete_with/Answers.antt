use Rattle.std.proofs.Common.{sym, subst}
use Rattle.meaning_atoms.specs.declared.atom.Atom.TheVariants.{Ad}
use Rattle.query_answers.specs.Answers.{IsEvidence}
use Rattle.query_answers.proofs.CompleteStableLemmas.{complete_evidence, found_admissible, may_ask_about}
use Rattle.goal_lists.proofs.RunLemmas.{ran_handed}
use Rattle.query_answers.proofs.CallLemmas.{closes_few, for_search, for_searches, no_memory}
use Rattle.std.specs.Prelude.{Ok, Err}
use Rattle.query_answers.proofs.complete_stable.complete_with.Goals as goal

pub search_query-requires : goal.search_query-requires
search_query-requires g c =
    may_ask_about (g.O.Oracle.framework c.args.oracle.now) (g.O.Oracle.log c.args.oracle.now).sides Ad c.args.query.now
    c.args.goal tt c.requires.fits c.requires.about

pub completed-requires-clause-found : goal.completed-requires-clause-found
completed-requires-clause-found g c =
    found_admissible (g.O.Oracle.framework c.args.oracle.now) (g.O.Oracle.framework c.search_query.new.oracle)
    (g.O.Oracle.log c.search_query.new.oracle) c.args.goal c.in_ok-found.found c.in_ok-found.ensures.ran.framework
    c.in_ok-found.ensures.found

pub returns-clause-shown : goal.returns-clause-shown
returns-clause-shown g c =
    let f = g.O.Oracle.framework c.args.oracle.now in
    let h = g.O.Oracle.framework c.search_query.new.oracle in
    subst (IsEvidence f c.args.query.now (g.O.Oracle.log c.completed.new.oracle)) (sym c.in_ok-evidence.ensures)
    (complete_evidence f h c.args.query.now c.args.goal (g.O.Oracle.log c.search_query.new.oracle)
    (g.O.Oracle.log c.completed.new.oracle) c.in_ok-found.found c.in_ok-grown.grown c.in_ok-found.ensures.ran.framework
    c.requires c.in_ok-found.ensures.ran.kept c.in_ok-grown.ensures.ran.run.grows c.in_ok-found.ensures.found
    c.in_ok-grown.ensures.completed)

pub returns-in_err-found-clause-ran : goal.returns-in_err-found-clause-ran
returns-in_err-found-clause-ran g c =
    ran_handed _ c.from_residual.ensures (for_search (closes_few (Err c.in_err-found.field-0.0))
    c.in_err-found.ensures.ran)

pub returns-in_err-grown-clause-ran : goal.returns-in_err-grown-clause-ran
returns-in_err-grown-clause-ran g c =
    ran_handed _ c.from_residual-in_err-grown.ensures
    (for_searches g.met.O.Oracle.joins (closes_few (Ok c.in_ok-found.found)) c.in_ok-found.ensures.ran
    c.in_err-grown.ensures.ran)

pub returns-in_err-evidence-clause-ran : goal.returns-in_err-evidence-clause-ran
returns-in_err-evidence-clause-ran g c =
    no_memory _ c.from_residual-in_err-evidence.ensures
    (for_searches g.met.O.Oracle.joins (closes_few (Ok c.in_ok-found.found)) c.in_ok-found.ensures.ran
    c.in_ok-grown.ensures.ran)

pub returns-clause-ran : goal.returns-clause-ran
returns-clause-ran g c =
    for_searches g.met.O.Oracle.joins (closes_few (Ok c.in_ok-found.found)) c.in_ok-found.ensures.ran
    c.in_ok-grown.ensures.ran
