use Rattle.std.proofs.Common.{arith}
use Rattle.certificate_making.proofs.MovingLemmas.{item_listed}
use Rattle.certificate_making.proofs.renumbering.moved_hints.Goals as goal

pub bounds-numbers-number : goal.bounds-numbers-number
bounds-numbers-number c =
    let lt = c.requires c.hint-item.result
    (item_listed c.args.hints.now c.loop-hint.hint-index c.hint-item.result c.loop-hint-test.true c.hint-item.is) in
    omega (arith, lt, c.number.ensures)
