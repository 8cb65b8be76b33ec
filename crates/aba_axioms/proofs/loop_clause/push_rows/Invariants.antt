use Rattle.std.proofs.Common.{◌≡◌, ◌++◌}
use Rattle.std.specs.Prelude.{take}
use Rattle.std.specs.List.{flat_map}
use Rattle.aba_axioms.specs.AbaTable.{row_literals}
use Rattle.aba_axioms.proofs.loop_clause.push_rows.Given as goal

-- the literals of the rows so far
abbrev pub invariant-loop-row : goal.invariant-loop-row
invariant-loop-row l = l.clause ≡ l.initial.clause ++ flat_map (row_literals l.fn.closure) (take l.row-index l.fn.rows)
