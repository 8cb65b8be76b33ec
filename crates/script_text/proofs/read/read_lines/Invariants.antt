use Rattle.std.proofs.Common.{length}
use Rattle.num_text.specs.Lines.{kept}
use Rattle.script_text.specs.Steps.{HasRead, places_of}
use Rattle.script_text.proofs.read.read_lines.Given as goal

-- the script so far, and where the sessions stand, are those of the lines so far
abbrev pub invariant-lines : goal.invariant-lines
invariant-lines l = HasRead l.fn.frameworks (kept l.initial.left) (kept l.left) (places_of l.groups) l.script

abbrev pub decreases-lines : goal.decreases-lines
decreases-lines l = length (kept l.left)
