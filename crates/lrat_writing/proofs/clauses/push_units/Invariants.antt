use Rattle.std.proofs.Common.{◌≡◌, ◌++◌, take}
use Rattle.std.specs.List.{flat_map}
use Rattle.lrat_writing.specs.Pieces.{unit_piece}
use Rattle.lrat_writing.proofs.clauses.push_units.Given as goal

abbrev pub invariant-loop-packed : goal.invariant-loop-packed
invariant-loop-packed l = l.text.items
    ≡ l.fn.text.items ++ flat_map unit_piece (take l.packed-index l.clause)
