use Rattle.std.proofs.Common.{length}
use Rattle.script_text.proofs.ReadNumbers.{HaveRead}
use Rattle.std.specs.Prelude.{map}
use Rattle.script_text.proofs.arguments.readings_of.Given as goal

-- the readings so far are those of the fields so far
abbrev pub invariant-loop-field : goal.invariant-loop-field
invariant-loop-field l = HaveRead (map (λ f. f.text) l.initial.fields) (map (λ f. f.text) l.fields) l.readings

abbrev pub decreases-loop-field : goal.decreases-loop-field
decreases-loop-field l = length l.fields
