use Rattle.std.proofs.Common.{◌≡◌, ◌*◌, ◌≤◌, length, drop}
use Rattle.std.specs.List.{flat_map}
use Rattle.lrat_writing.specs.declared.clauses.TheConstants.{NUMBER_BYTES}
use Rattle.lrat_writing.specs.Pieces.{number_piece}
use Rattle.lrat_writing.specs.Walks.{id_in}
use Rattle.lrat_writing.proofs.steps.write_hints.Given as goal

abbrev pub invariant-loop-left : goal.invariant-loop-left
invariant-loop-left l = record {
  within : l.left ≤ length l.hints;
  room : l.left * NUMBER_BYTES ≤ l.start;
  before : l.start ≤ length l.piece;
  written : drop l.start l.piece ≡ flat_map (λ h. number_piece (id_in l.ids h)) (drop l.left l.hints);
}

abbrev pub decreases-loop-left : goal.decreases-loop-left
decreases-loop-left l = l.left
