use Rattle.std.specs.List.{flat_map, range_with_len}
use Rattle.aba_encoding.specs.Listing.{Gains, atom_axioms}
use Rattle.aba_encoding.proofs.needed_axioms.push_atoms.Given as goal

abbrev pub invariant-loop-before : goal.invariant-loop-before
invariant-loop-before l =
    Gains (flat_map (atom_axioms l.plain) (range_with_len 1 l.before)) l.fn.names.items l.names.items
