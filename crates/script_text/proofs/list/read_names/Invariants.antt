use Rattle.std.proofs.Common.{length, map}
use Rattle.std.specs.String.{string_bytes}
use Rattle.num_text.specs.Lines.{kept}
use Rattle.script_text.specs.ListSteps.{HaveNames}
use Rattle.script_text.proofs.list.read_names.Given as goal

-- the names so far are those of the lines so far
abbrev pub invariant-lines : goal.invariant-lines
invariant-lines l = HaveNames (kept l.initial.left) (kept l.left) (map string_bytes l.names)

abbrev pub decreases-lines : goal.decreases-lines
decreases-lines l = length (kept l.left)
