use Rattle.std.proofs.Common.{arith}
use Rattle.sat_core.proofs.Descending.{values_more}
use Rattle.sat_core.proofs.decision_loop.first_unset.Goals as goal

pub loop-var-preserved : goal.loop-var-preserved
loop-var-preserved c = values_more c.args.search.now.lits c.args.from c.loop-var.var c.value.result
    c.loop-var.invariant c.value.ensures.value c.in_default.not-Unset

pub returns : goal.returns
returns c =
    let past = c.loop-var-test.false in
    let last = c.vars-var-end.ensures.vars in
    record { each = λ v le lt. c.loop-var.invariant v le (omega (arith, lt, past, last)) }
