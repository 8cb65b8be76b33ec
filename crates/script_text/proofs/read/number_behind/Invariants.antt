use Rattle.std.proofs.Common.{◌≡◌, ◌+◌, length}
use Rattle.num_text.specs.Cuts.{lines_of}
use Rattle.script_text.proofs.read.number_behind.Given as goal

-- the number is that of the next line
abbrev pub invariant-loop-line : goal.invariant-loop-line
invariant-loop-line l = l.number + length l.left ≡ length (lines_of l.bytes) + 1

abbrev pub decreases-loop-line : goal.decreases-loop-line
decreases-loop-line l = length l.left
