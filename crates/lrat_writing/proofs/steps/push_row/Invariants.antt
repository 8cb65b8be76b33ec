use Rattle.std.proofs.Common.{◌≡◌, ◌++◌}
use Rattle.std.specs.List.{flat_map, range_with_len}
use Rattle.lrat_writing.specs.Pieces.{number_piece}
use Rattle.lrat_writing.proofs.steps.push_row.Given as goal

abbrev pub invariant-loop-index : goal.invariant-loop-index
invariant-loop-index l = l.text.items
    ≡ l.fn.text.items ++ flat_map number_piece (range_with_len l.first l.index)
