use Rattle.std.proofs.Common.{◌≡◌}
use Rattle.num_text.specs.Lines.{kept}
use Rattle.num_text.proofs.skips.next_kept.Given as goal

-- the lines that were passed are skipped
abbrev pub invariant-loop-line : goal.invariant-loop-line
invariant-loop-line l = kept l.lines ≡ kept l.initial.lines
