use Rattle.std.proofs.Common.{◌≡◌, ◌*◌, ◌≤◌, length, drop}
use Rattle.std.specs.List.{flat_map}
use Rattle.lrat_writing.specs.declared.clauses.TheConstants.{LITERAL_BYTES}
use Rattle.lrat_writing.specs.Pieces.{literal_piece}
use Rattle.lrat_writing.proofs.clauses.write_literals.Given as goal

abbrev pub invariant-loop-left : goal.invariant-loop-left
invariant-loop-left l = record {
  within : l.left ≤ length l.clause;
  room : l.left * LITERAL_BYTES ≤ l.start;
  before : l.start ≤ length l.piece;
  written : drop l.start l.piece ≡ flat_map literal_piece (drop l.left l.clause);
}

abbrev pub decreases-loop-left : goal.decreases-loop-left
decreases-loop-left l = l.left
