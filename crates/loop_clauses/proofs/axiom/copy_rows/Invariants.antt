use Rattle.std.proofs.Common.{◌≡◌, take}
use Rattle.loop_clauses.specs.LoopNames.{loop_rows}
use Rattle.loop_clauses.proofs.axiom.copy_rows.Given as goal

abbrev pub invariant-loop-row : goal.invariant-loop-row
invariant-loop-row l = l.copy ≡ loop_rows (take l.row-index l.rows)
