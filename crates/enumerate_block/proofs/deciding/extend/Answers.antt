use Rattle.std.proofs.Common.{arith, subst, sym}
use Rattle.goal_lists.proofs.Calls.{makes_same}
use Rattle.enumerate_block.proofs.WitnessLemmas.{found_witness, taken}
use Rattle.std.specs.Prelude.{Contains}
use Rattle.semantics.specs.Frameworks.{Framework}
use Rattle.certificate_claims.specs.SetLiterals.{members}
use Rattle.goal_lists.proofs.RunLemmas.{ran_as, ran_handed, ran_then, then_found, then_handed, then_none}
use Rattle.enumerate_block.proofs.deciding.extend.Goals as goal

pub returns-in-Set-clause-extends : goal.returns-in-Set-clause-extends
returns-in-Set-clause-extends g c =
    found_witness c.args.mode (g.O.Oracle.framework c.args.oracle.now) (g.O.Oracle.framework c.widest_in.new.oracle)
    (g.O.Oracle.framework c.within_range.new.oracle) (g.O.Oracle.log c.widest_in.new.oracle)
    (g.O.Oracle.log c.within_range.new.oracle) _ c.args.goal c.args.accepted c.args.set.now c.in-Set.set
    c.in_ok-widest.widest c.in_ok-set.field-0 c.requires.kind c.in_ok-widest.ensures.ran.framework
    c.in_ok-set.ensures.ran.framework c.in_ok-widest.ensures.ran.kept c.in_ok-set.ensures.ran.kept
    c.in_ok-set.ensures.ran.run.grows
    c.in_ok-widest.ensures.widest c.in-Set.is c.in_ok-set.ensures.within

pub returns-in_ok-take_range-in-Refuted-clause-extends : goal.returns-in_ok-take_range-in-Refuted-clause-extends
returns-in_ok-take_range-in-Refuted-clause-extends g c =
    taken c.args.mode (g.O.Oracle.framework c.args.oracle.now) (g.O.Oracle.framework c.widest_in.new.oracle)
    (g.O.Oracle.framework c.within_range.new.oracle) (g.O.Oracle.log c.args.oracle.now)
    (g.O.Oracle.log c.widest_in.new.oracle) (g.O.Oracle.log c.within_range.new.oracle)
    (g.O.Oracle.log c.take_range.new.oracle) _ c.args.goal c.args.accepted c.args.cover.now c.take_range.new.cover
    c.args.set.now c.in_ok-widest.widest c.in_ok-set.field-0 c.in-Refuted.step c.in_ok-widest.ensures.ran.framework
    c.in_ok-set.ensures.ran.framework c.in_ok-set.ensures.ran.kept c.in_ok-take_range-in-Refuted.ensures.ran.run.grows
    c.requires.set c.in_ok-widest.ensures.widest c.in-Refuted.is c.in_ok-set.ensures.within
    c.in_ok-take_range-in-Refuted.ensures.takes

pub widest_in-requires-clause-holds : goal.widest_in-requires-clause-holds
widest_in-requires-clause-holds g c = c.requires.set.0

pub within_range-requires-clause-goal : goal.within_range-requires-clause-goal
within_range-requires-clause-goal g c =
    subst (λ (x : Framework). Contains (members x) c.args.goal) (sym c.in_ok-widest.ensures.ran.framework)
    c.requires.goal

pub returns-in_err-widest-clause-ran : goal.returns-in_err-widest-clause-ran
returns-in_err-widest-clause-ran g c =
    ran_handed _ c.from_residual.ensures (ran_as {most = 2} (makes_same _) (omega arith) c.in_err-widest.ensures.ran)

pub returns-in_err-set-clause-ran : goal.returns-in_err-set-clause-ran
returns-in_err-set-clause-ran g c =
    then_handed {n = 0} g.met.O.Oracle.joins _ c.from_residual-in_err-set.ensures (omega arith)
    c.in_ok-widest.ensures.ran c.in_err-set.ensures.ran

pub returns-in-Set-clause-ran : goal.returns-in-Set-clause-ran
returns-in-Set-clause-ran g c =
    ran_as (makes_same _) (omega arith)
    (then_found g.met.O.Oracle.joins c.in-Set.is c.in_ok-widest.ensures.ran c.in_ok-set.ensures.ran)

pub returns-in_err-take_range-in-Refuted-clause-ran : goal.returns-in_err-take_range-in-Refuted-clause-ran
returns-in_err-take_range-in-Refuted-clause-ran g c =
    then_handed {m = 2} g.met.O.Oracle.joins _ c.from_residual-in_err-take_range-in-Refuted.ensures (omega arith)
    (then_none g.met.O.Oracle.joins c.in-Refuted.is (omega arith) c.in_ok-widest.ensures.ran c.in_ok-set.ensures.ran)
    c.in_err-take_range-in-Refuted.ensures.ran

pub returns-in_ok-take_range-in-Refuted-clause-ran : goal.returns-in_ok-take_range-in-Refuted-clause-ran
returns-in_ok-take_range-in-Refuted-clause-ran g c =
    ran_then {m = 2} g.met.O.Oracle.joins (omega arith)
    (then_none g.met.O.Oracle.joins c.in-Refuted.is (omega arith) c.in_ok-widest.ensures.ran c.in_ok-set.ensures.ran)
    c.in_ok-take_range-in-Refuted.ensures.ran
