use Rattle.std.proofs.Common.{arith, refl, subst, sym}
use Rattle.enumerate_block.proofs.RangeTurns.{as_widest, widest_kept}
use Rattle.goal_lists.proofs.RunLemmas.{ran_handed, ran_lost, ran_then}
use Rattle.semantics.specs.Frameworks.{Framework}
use Rattle.enumerate_block.specs.semi_stable.specs.Widest.{HasRange}
use Rattle.goal_lists.specs.Sides.{IsAskOf}
use Rattle.certificate_claims.specs.SetLiterals.{wider}
use Rattle.enumerate_block.proofs.ranges.grow_range.Goals as goal

pub widest_in-requires-clause-holds : goal.widest_in-requires-clause-holds
widest_in-requires-clause-holds g c = c.requires.set.0

pub oblige_wider-requires : goal.oblige_wider-requires
oblige_wider-requires g c =
    let w = c.in_ok-widest.widest in
    subst (λ (x : Framework). HasRange x c.args.mode w) (sym c.in_ok-widest.ensures.ran.framework)
    (record {
      kind = c.requires.kind;
      has_mode = c.in_ok-widest.ensures.widest.has_mode;
      range = c.in_ok-widest.ensures.widest.range;
    })

pub returns-in_err-widest-clause-ran : goal.returns-in_err-widest-clause-ran
returns-in_err-widest-clause-ran g c = ran_handed _ c.from_residual.ensures (as_widest c.args.mode
    c.in_err-widest.ensures.ran)

pub returns-in_err-ask-clause-ran : goal.returns-in_err-ask-clause-ran
returns-in_err-ask-clause-ran g c =
    ran_handed _ c.from_residual-in_err-ask.ensures
    (as_widest c.args.mode (ran_then {most = 1} g.met.O.Oracle.joins (omega arith) c.in_ok-widest.ensures.ran
    c.in_err-ask.ensures.ran))

pub returns-in_err-push-clause-ran : goal.returns-in_err-push-clause-ran
returns-in_err-push-clause-ran g c =
    ran_lost _ c.from_residual-in_err-push.ensures (omega arith)
    (as_widest c.args.mode (ran_then {most = 1} g.met.O.Oracle.joins (omega arith) c.in_ok-widest.ensures.ran
    c.in_ok-ask.ensures.ran))

pub returns-clause-ran : goal.returns-clause-ran
returns-clause-ran g c =
    as_widest c.args.mode (ran_then g.met.O.Oracle.joins (omega arith) c.in_ok-widest.ensures.ran
    c.in_ok-ask.ensures.ran)

pub returns-clause-grows : goal.returns-clause-grows
returns-clause-grows g c =
    let f = g.O.Oracle.framework c.args.oracle.now in
    let log = g.O.Oracle.log c.oblige_wider.new.oracle in
    let w = c.in_ok-widest.widest in
    let ran = c.in_ok-widest.ensures.ran in
    record {
      is_widest = widest_kept c.args.mode f _ log _ _ c.args.set.now w ran.framework ran.kept
          c.in_ok-ask.ensures.ran.run.grows
          c.in_ok-widest.ensures.widest;
      sets = refl;
      marks = refl;
      number = c.in_ok-ask.ask;
      asks = c.in_ok-push.ensures.ok;
      ask = subst (λ (x : Framework). IsAskOf log.sides (wider x w.set) c.in_ok-ask.ask) ran.framework
          c.in_ok-ask.ensures.asked;
    }
