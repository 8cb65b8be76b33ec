use Rattle.std.proofs.Common.{length}
use Rattle.num_text.specs.Lines.{kept}
use Rattle.af_format.proofs.Reading.{HasRead}
use Rattle.af_format.proofs.read.read_attacks.Given as goal

-- the lines so far are those of the attacks so far
abbrev pub invariant-loop-attacks : goal.invariant-loop-attacks
invariant-loop-attacks l = HasRead l.count (kept l.initial.left) (kept l.left) l.attacks

abbrev pub decreases-loop-attacks : goal.decreases-loop-attacks
decreases-loop-attacks l = length (kept l.left)
