use Rattle.std.proofs.Common.{length}
use Rattle.num_text.specs.Lines.{kept}
use Rattle.aba_format.proofs.LineLemmas.{HasRead}
use Rattle.aba_format.proofs.read.take_lines.Given as goal

-- the lines so far say what stands in the parts
abbrev pub invariant-loop-line : goal.invariant-loop-line
invariant-loop-line l = HasRead l.count (kept l.initial.left) (kept l.left) l.parts

abbrev pub decreases-loop-line : goal.decreases-loop-line
decreases-loop-line l = length (kept l.left)
