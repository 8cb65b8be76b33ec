use Rattle.std.proofs.Common.{sym, subst}
use Rattle.query_answers.specs.Answers.{IsEvidence}
use Rattle.query_answers.proofs.CallLemmas.{for_one, makes_widest, no_memory}
use Rattle.query_answers.proofs.WidestLemmas.{empty_of_mode, some_abstract, widest_evidence}
use Rattle.goal_lists.proofs.RunLemmas.{ran_handed}
use Rattle.query_answers.proofs.widest_sets.widest_set.Goals as goal

pub widest_in-requires-clause-kind : goal.widest_in-requires-clause-kind
widest_in-requires-clause-kind g c =
    some_abstract c.args.mode (g.O.Oracle.framework c.args.oracle.now) c.args.query.now c.requires

pub widest_in-requires-clause-holds : goal.widest_in-requires-clause-holds
widest_in-requires-clause-holds g c =
    empty_of_mode c.args.mode (g.O.Oracle.framework c.args.oracle.now) _ c.new-empty.ensures

pub returns-clause-shown : goal.returns-clause-shown
returns-clause-shown g c =
    let f = g.O.Oracle.framework c.args.oracle.now in
    subst (IsEvidence f c.args.query.now (g.O.Oracle.log c.widest_in.new.oracle)) (sym c.in_ok-evidence.ensures)
    (widest_evidence c.args.mode f (g.O.Oracle.log c.widest_in.new.oracle) c.args.query.now _ c.in_ok-widest.widest
    c.requires c.number-number.ensures.fits c.in_ok-widest.ensures.widest)

pub returns-in_err-widest-clause-ran : goal.returns-in_err-widest-clause-ran
returns-in_err-widest-clause-ran g c =
    ran_handed _ c.from_residual.ensures
    (for_one (makes_widest _ _ c.args.mode _ c.requires.same) c.in_err-widest.ensures.ran)

pub returns-in_err-evidence-clause-ran : goal.returns-in_err-evidence-clause-ran
returns-in_err-evidence-clause-ran g c =
    no_memory _ c.from_residual-in_err-evidence.ensures
    (for_one (makes_widest _ _ c.args.mode _ c.requires.same) c.in_ok-widest.ensures.ran)

pub returns-clause-ran : goal.returns-clause-ran
returns-clause-ran g c = for_one (makes_widest _ _ c.args.mode _ c.requires.same) c.in_ok-widest.ensures.ran
