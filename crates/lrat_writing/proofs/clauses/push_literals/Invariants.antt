use Rattle.std.proofs.Common.{◌≡◌, ◌-◌, ◌≤◌, ◌++◌, length, take}
use Rattle.std.specs.List.{flat_map}
use Rattle.lrat_writing.specs.Pieces.{literal_piece}
use Rattle.lrat_writing.proofs.clauses.push_literals.Given as goal

abbrev pub invariant-loop-from : goal.invariant-loop-from
invariant-loop-from l = record {
  within : l.from ≤ length l.clause;
  written : l.text.items ≡ l.fn.text.items ++ flat_map literal_piece (take l.from l.clause);
}

abbrev pub decreases-loop-from : goal.decreases-loop-from
decreases-loop-from l = length l.clause - l.from
