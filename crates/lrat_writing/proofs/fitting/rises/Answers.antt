use Rattle.std.proofs.Common.{◌-◌, arith, refl, subst}
use Rattle.plain_lits.specs.Literals.{IsLitBefore}
use Rattle.lrat_writing.proofs.RoomsAndOrder.{rises_few, rises_more, all_rise}
use Rattle.lrat_writing.proofs.fitting.rises.Goals as goal

pub loop-index-init : goal.loop-index-init
loop-index-init c = rises_few c.args.clause.now 1 (omega arith)

pub loop-index-preserved : goal.loop-index-preserved
loop-index-preserved c =
    let a = c.index-clause-index.result in
    let b = c.index-clause-index-in-loop-index.result in
    rises_more c.args.clause.now c.loop-index.index (c.loop-index.index - 1) a b c.loop-index-test.true
    c.loop-index.auto.index refl c.loop-index.invariant c.index-clause-index.is c.index-clause-index-in-loop-index.is
    (subst (λ x. IsLitBefore x b) c.lit.ensures.lit
    (subst (λ y. IsLitBefore c.lit.result y) c.lit-in-loop-index.ensures.lit c.if-not-is_before.ensures))

pub returns : goal.returns
returns c =
    all_rise c.args.clause.now c.loop-index.index (let test = c.loop-index-test.false in omega (arith, test))
    c.loop-index.invariant
