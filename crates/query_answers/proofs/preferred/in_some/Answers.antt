use Rattle.std.proofs.Common.{sym, subst}
use Rattle.meaning_atoms.specs.declared.atom.Atom.TheVariants.{Ad}
use Rattle.query_answers.specs.Answers.{IsEvidence}
use Rattle.query_answers.proofs.CompleteStableLemmas.{may_ask_about}
use Rattle.query_answers.proofs.PreferredLemmas.{begins_found, refuted_evidence}
use Rattle.goal_lists.proofs.RunLemmas.{ran_handed}
use Rattle.query_answers.proofs.CallLemmas.{closes_few, for_found, for_search, no_memory}
use Rattle.std.specs.Prelude.{Ok, Err}
use Rattle.query_answers.proofs.preferred.in_some.Goals as goal

pub search_query-requires : goal.search_query-requires
search_query-requires g c =
    may_ask_about (g.O.Oracle.framework c.args.oracle.now) (g.O.Oracle.log c.args.oracle.now).sides Ad c.args.query.now
    c.args.goal tt c.requires.fits c.requires.about

pub largest-requires : goal.largest-requires
largest-requires g c =
    begins_found (g.O.Oracle.framework c.args.oracle.now) (g.O.Oracle.framework c.search_query.new.oracle)
    (g.O.Oracle.log c.search_query.new.oracle) c.args.query.now c.args.goal c.in_ok-set.field-0 c.in-Set.set
    c.in_ok-set.ensures.ran.framework c.in-Set.is c.requires c.in_ok-set.ensures.found

pub returns-in_ok-evidence-in-Refuted-clause-shown : goal.returns-in_ok-evidence-in-Refuted-clause-shown
returns-in_ok-evidence-in-Refuted-clause-shown g c =
    let f = g.O.Oracle.framework c.args.oracle.now in
    let log = g.O.Oracle.log c.search_query.new.oracle in
    subst (IsEvidence f c.args.query.now log) (sym c.in_ok-evidence-in-Refuted.ensures)
    (refuted_evidence f log c.args.query.now c.args.goal c.in_ok-set.field-0 c.in-Refuted.step c.in-Refuted.is
    c.requires c.in_ok-set.ensures.found)

pub returns-in_err-set-clause-ran : goal.returns-in_err-set-clause-ran
returns-in_err-set-clause-ran g c =
    ran_handed _ c.from_residual.ensures (for_search (closes_few (Err c.in_err-set.field-0.0)) c.in_err-set.ensures.ran)

pub returns-in-Set-clause-ran : goal.returns-in-Set-clause-ran
returns-in-Set-clause-ran g c = for_found g.met.O.Oracle.joins c.in-Set.is c.in_ok-set.ensures.ran c.largest.ensures.ran

pub returns-in_err-evidence-in-Refuted-clause-ran : goal.returns-in_err-evidence-in-Refuted-clause-ran
returns-in_err-evidence-in-Refuted-clause-ran g c =
    no_memory _ c.from_residual-in_err-evidence-in-Refuted.ensures (for_search (closes_few
    (Ok c.in_ok-set.field-0)) c.in_ok-set.ensures.ran)

pub returns-in_ok-evidence-in-Refuted-clause-ran : goal.returns-in_ok-evidence-in-Refuted-clause-ran
returns-in_ok-evidence-in-Refuted-clause-ran g c =
    for_search (closes_few (Ok c.in_ok-set.field-0)) c.in_ok-set.ensures.ran
