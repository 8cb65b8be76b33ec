use Rattle.std.proofs.Common.{refl, arith}
use Rattle.certificate_making.proofs.MovingLemmas.{moved_next, moved_all}
use Rattle.certificate_making.proofs.renumbering.move_literals.Goals as goal

pub loop-index-preserved : goal.loop-index-preserved
loop-index-preserved c = moved_next c.args.positions.now c.args.literals.now.items c.loop-index.literals.items _
    c.loop-index.index _ c.renumber.result
    (omega (arith, c.loop-index-test.true, c.len-index-end.ensures, c.loop-index.invariant.long))
    c.loop-index.invariant (rw c.as_slice.ensures.value at c.renumber.ensures) refl

pub returns : goal.returns
returns c = moved_all c.args.positions.now c.args.literals.now.items c.loop-index.literals.items c.loop-index.index
    (omega (arith, c.loop-index-test.false, c.len-index-end.ensures, c.loop-index.invariant.long))
    c.loop-index.invariant
