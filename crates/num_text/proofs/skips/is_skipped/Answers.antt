use Rattle.std.proofs.Common.{sym, arith}
use Rattle.std.proofs.lemmas.Bool.{eqb-true, eqb-false}
use Rattle.num_text.proofs.SkippedLines.{skipped_blanks, skipped_byte}
use Rattle.num_text.proofs.skips.is_skipped.Goals as goal

pub returns-then-start-line : goal.returns-then-start-line
returns-then-start-line c =
    sym (skipped_blanks c.args.line.now.text.now c.blanks_length-start.result c.blanks_length-start.ensures.index
    (omega arith))

pub returns : goal.returns
returns c = sym (skipped_byte c.args.line.now.text.now c.blanks_length-start.result c.blanks_length-start.ensures.index
    (omega arith))
