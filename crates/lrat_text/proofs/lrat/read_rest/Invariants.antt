use Rattle.std.proofs.Common.{length}
use Rattle.lrat_text.specs.Lines.{lrat_kept}
use Rattle.lrat_text.proofs.Courses.{ReadTo}
use Rattle.lrat_text.proofs.lrat.read_rest.Given as goal

abbrev pub invariant-loop-line : goal.invariant-loop-line
invariant-loop-line l = ReadTo l.vars l.fn.last (lrat_kept l.fn.left) l.last (lrat_kept l.left)

abbrev pub decreases-loop-line : goal.decreases-loop-line
decreases-loop-line l = length (lrat_kept l.left)
