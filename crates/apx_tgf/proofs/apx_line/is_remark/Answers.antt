use Rattle.std.proofs.Common.{arith}
use Rattle.apx_tgf.proofs.RemarkLemmas.{no_percent, percent_first}
use Rattle.apx_tgf.proofs.apx_line.is_remark.Goals as goal

pub returns-then-start-line : goal.returns-then-start-line
returns-then-start-line c =
    let all = c.if-start-line.true in
    no_percent c.args.line.now.text.now c.blanks_length-start.result c.blanks_length-start.ensures.index
    (omega (arith, all))

pub returns : goal.returns
returns c =
    let other = c.if-start-line.false in
    let within = c.blanks_length-start.ensures.within in
    percent_first c.args.line.now.text.now c.blanks_length-start.result c.blanks_length-start.ensures.index
    (omega (arith, other, within))
