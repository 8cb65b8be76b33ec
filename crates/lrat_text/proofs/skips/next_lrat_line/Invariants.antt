use Rattle.std.proofs.Common.{◌≡◌}
use Rattle.lrat_text.specs.Lines.{lrat_kept}
use Rattle.lrat_text.proofs.skips.next_lrat_line.Given as goal

-- the lines that were passed are skipped
abbrev pub invariant-loop-line : goal.invariant-loop-line
invariant-loop-line l = lrat_kept l.lines ≡ lrat_kept l.initial.lines
