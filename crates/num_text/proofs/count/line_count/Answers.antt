use Rattle.std.proofs.Common.{length, ap, arith}
use Rattle.num_text.proofs.KeptLines.{length-lines_of-le}
use Rattle.num_text.proofs.count.line_count.Goals as goal

pub loop-line-init : goal.loop-line-init
loop-line-init c =
    let all = ap length c.lines-left.ensures.all in
    (omega arith, omega (arith, all, c.requires, length-lines_of-le c.args.bytes.now))
