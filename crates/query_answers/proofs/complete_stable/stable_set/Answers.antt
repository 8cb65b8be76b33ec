use Rattle.std.proofs.Common.{[], sym, subst}
use Rattle.lists.proofs.Membership.{Contains-nil}
use Rattle.meaning_atoms.specs.declared.atom.Atom.TheVariants.{St}
use Rattle.query_answers.specs.Answers.{IsEvidence}
use Rattle.query_answers.proofs.CompleteStableLemmas.{may_ask, some_evidence}
use Rattle.goal_lists.proofs.RunLemmas.{ran_handed}
use Rattle.query_answers.proofs.CallLemmas.{closes_few, for_search, no_memory}
use Rattle.std.specs.Prelude.{Ok, Err}
use Rattle.query_answers.proofs.complete_stable.stable_set.Goals as goal

pub search_for-requires : goal.search_for-requires
search_for-requires g c =
    may_ask (g.O.Oracle.framework c.args.oracle.now) (g.O.Oracle.log c.args.oracle.now).sides St [] [] tt
    (λ a k. absurd (Contains-nil a k)) (λ a k. absurd (Contains-nil a k)) (λ a k d. Contains-nil a k)

pub returns-clause-shown : goal.returns-clause-shown
returns-clause-shown g c =
    let f = g.O.Oracle.framework c.args.oracle.now in
    subst (IsEvidence f c.args.query.now (g.O.Oracle.log c.search_for.new.oracle))
    (sym c.in_ok-evidence.ensures)
    (some_evidence f (g.O.Oracle.log c.search_for.new.oracle) c.args.query.now c.in_ok-found.found c.requires
    c.number-number.ensures.fits c.in_ok-found.ensures.found)

pub returns-in_err-found-clause-ran : goal.returns-in_err-found-clause-ran
returns-in_err-found-clause-ran g c =
    ran_handed _ c.from_residual.ensures (for_search (closes_few (Err c.in_err-found.field-0.0))
    c.in_err-found.ensures.ran)

pub returns-in_err-evidence-clause-ran : goal.returns-in_err-evidence-clause-ran
returns-in_err-evidence-clause-ran g c =
    no_memory _ c.from_residual-in_err-evidence.ensures (for_search (closes_few (Ok c.in_ok-found.found))
    c.in_ok-found.ensures.ran)

pub returns-clause-ran : goal.returns-clause-ran
returns-clause-ran g c = for_search (closes_few (Ok c.in_ok-found.found)) c.in_ok-found.ensures.ran
