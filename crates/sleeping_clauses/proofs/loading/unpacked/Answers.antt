use Rattle.std.proofs.Common.{◌∙◌, arith, rules}
use Rattle.std.proofs.lemmas.List.{take_all}
use Rattle.sleeping_clauses.proofs.Falsifying.{lits_more}
use Rattle.sleeping_clauses.proofs.loading.unpacked.Goals as goal

pub loop-packed-init : goal.loop-packed-init
loop-packed-init c = search rules

pub loop-packed-preserved : goal.loop-packed-preserved
loop-packed-preserved c =
    lits_more c.args.clause.now c.loop-packed.lits.items _ c.loop-packed.packed-index c.lit.result
    c.packed-item.result c.loop-packed-test.true c.loop-packed.invariant c.in_ok-push.ensures.items
    (c.lit.ensures.lit ∙ c.packed-item.is)

pub returns : goal.returns
returns c =
    let past = c.loop-packed-test.false in
    c.loop-packed.invariant ∙ take_all c.loop-packed.packed-index c.args.clause.now (omega (arith, past))
