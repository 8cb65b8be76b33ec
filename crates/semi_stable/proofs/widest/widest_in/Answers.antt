use Rattle.std.proofs.Common.{rules, arith}
use Rattle.goal_lists.proofs.RunLemmas.{ran_lost, ran_none, ran_nothing, then_found, then_handed, then_none}
use Rattle.semi_stable.proofs.WidestLemmas.{fewer_open, wider_set}
use Rattle.semi_stable.proofs.widest.widest_in.Goals as goal

pub returns-in_err-grown-clause-ran : goal.returns-in_err-grown-clause-ran
returns-in_err-grown-clause-ran g c =
    ran_nothing _ c.from_residual.ensures c.members-members.ensures.kept (g.met.O.Oracle.stays _)

pub returns-in_err-range-clause-ran : goal.returns-in_err-range-clause-ran
returns-in_err-range-clause-ran g c =
    ran_lost _ c.from_residual-in_err-range.ensures (omega arith) c.loop-grown.invariant.ran

pub returns-in_err-found-clause-ran : goal.returns-in_err-found-clause-ran
returns-in_err-found-clause-ran g c =
    then_handed {n = 0} g.met.O.Oracle.joins _ c.from_residual-in_err-found.ensures (omega arith)
    c.loop-grown.invariant.ran c.in_err-found.ensures.ran

pub returns-in-Refuted-clause-ran : goal.returns-in-Refuted-clause-ran
returns-in-Refuted-clause-ran g c =
    then_none g.met.O.Oracle.joins c.in-Refuted.is (omega arith) c.loop-grown.invariant.ran c.in_ok-found.ensures.ran

pub loop-grown-smaller : goal.loop-grown-smaller
loop-grown-smaller g c =
    let f = g.O.Oracle.framework c.args.oracle.now in
    let log = g.O.Oracle.log c.wider.new.oracle in
    fewer_open f log c.args.mode c.loop-grown.grown c.in-Set.found c.requires.kind
    (wider_set f (g.O.Oracle.framework c.loop-grown.oracle) log c.args.mode c.loop-grown.grown c.in_ok-found.field-0
    c.in-Set.found c.loop-grown.invariant.ran.framework c.in-Set.is c.in_ok-found.ensures.wider)

pub loop-grown-preserved : goal.loop-grown-preserved
loop-grown-preserved g c =
    let inv = c.loop-grown.invariant in
    let wider = wider_set (g.O.Oracle.framework c.args.oracle.now) (g.O.Oracle.framework c.loop-grown.oracle)
    (g.O.Oracle.log c.wider.new.oracle) c.args.mode c.loop-grown.grown c.in_ok-found.field-0 c.in-Set.found
    inv.ran.framework c.in-Set.is c.in_ok-found.ensures.wider in
    record {
      ran = then_found g.met.O.Oracle.joins c.in-Set.is inv.ran c.in_ok-found.ensures.ran;
      has_mode = wider.0;
      holds = λ a h. wider.1 a (inv.holds a h);
    }

pub loop-grown-init : goal.loop-grown-init
loop-grown-init g c = record {
  ran = ran_none 0 c.members-members.ensures.kept (g.met.O.Oracle.stays _);
  has_mode = search rules;
  holds = search rules;
}
