use Rattle.std.proofs.Common.{◌≡◌, ◌-◌, ◌≤◌, ◌++◌, length, take}
use Rattle.std.specs.List.{flat_map}
use Rattle.lrat_writing.specs.Pieces.{number_piece}
use Rattle.lrat_writing.specs.Walks.{id_in}
use Rattle.lrat_writing.proofs.steps.push_hints.Given as goal

abbrev pub invariant-loop-from : goal.invariant-loop-from
invariant-loop-from l = record {
  within : l.from ≤ length l.hints;
  written : l.text.items ≡ l.fn.text.items ++ flat_map (λ h. number_piece (id_in l.ids h)) (take l.from l.hints);
}

abbrev pub decreases-loop-from : goal.decreases-loop-from
decreases-loop-from l = length l.hints - l.from
