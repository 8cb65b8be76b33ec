use Rattle.std.proofs.Common.{ap, arith, length}
use Rattle.num_text.proofs.KeptLines.{length-lines_of-le}
use Rattle.script_text.proofs.read.number_behind.Goals as goal

pub overflow_add-number : goal.overflow_add-number
overflow_add-number c =
    let steps = ap length c.in-Some.ensures.steps in
    omega (arith, steps, c.loop-line.invariant, length-lines_of-le c.args.bytes.now)
