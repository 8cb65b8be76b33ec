use Rattle.std.proofs.Common.{◌≡◌, ◌++◌}
use Rattle.std.specs.Prelude.{map, take}
use Rattle.meaning_atoms.specs.Literals.{affirmed}
use Rattle.aba_axioms.specs.AbaTable.{given_atom}
use Rattle.aba_axioms.proofs.loop_clause.push_given.Given as goal

-- the literals of the rows so far
abbrev pub invariant-loop-row : goal.invariant-loop-row
invariant-loop-row l =
    l.clause ≡ l.initial.clause ++ map (λ row. affirmed (given_atom l.fn.closure row.atom)) (take l.row-index l.fn.rows)
