use Rattle.std.proofs.Common.{◌≡◌}
use Rattle.lrat_text.specs.Lines.{cnf_kept}
use Rattle.lrat_text.proofs.skips.next_cnf_line.Given as goal

-- the lines that were passed are skipped
abbrev pub invariant-loop-line : goal.invariant-loop-line
invariant-loop-line l = cnf_kept l.lines ≡ cnf_kept l.initial.lines
