use Rattle.std.proofs.Common.{length}
use Rattle.num_text.specs.Lines.{kept}
use Rattle.af_format.proofs.Readings.{HasPassed}
use Rattle.af_format.proofs.laws.attacks_or_fault.Given as goal

-- the lines so far are attack lines
abbrev pub invariant-loop-attack : goal.invariant-loop-attack
invariant-loop-attack l = HasPassed l.count (kept l.initial.left) (kept l.left) l.index

abbrev pub decreases-loop-attack : goal.decreases-loop-attack
decreases-loop-attack l = length (kept l.left)
