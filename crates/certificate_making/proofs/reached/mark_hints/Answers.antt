use Rattle.std.proofs.Common.{sym, refl, arith}
use Rattle.certificate_making.proofs.WalkLemmas.{hints_more}
use Rattle.certificate_making.proofs.reached.mark_hints.Goals as goal

pub index_mut-requires : goal.index_mut-requires
index_mut-requires c =
    let lt = c.requires c.hint-item.result (c.loop-hint.hint-index, c.loop-hint-test.true, sym c.hint-item.is) in
    let long = c.loop-hint.invariant.long in
    omega (arith, lt, long, c.number.ensures)

pub loop-hint-preserved : goal.loop-hint-preserved
loop-hint-preserved c =
    let lt = c.requires c.hint-item.result (c.loop-hint.hint-index, c.loop-hint-test.true, sym c.hint-item.is) in
    let long = c.loop-hint.invariant.long in
    hints_more c.args.hints.now c.args.marks.now.items c.loop-hint.marks.items _ c.loop-hint.hint-index
    c.hint-item.result c.number.result
    c.loop-hint-test.true c.hint-item.is c.number.ensures (omega (arith, lt, long, c.number.ensures))
    c.loop-hint.invariant refl
