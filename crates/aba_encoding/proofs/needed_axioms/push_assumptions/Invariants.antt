use Rattle.std.proofs.Common.{take}
use Rattle.std.specs.List.{flat_map}
use Rattle.aba_encoding.specs.Listing.{Gains, assumption_axioms}
use Rattle.aba_encoding.proofs.needed_axioms.push_assumptions.Given as goal

abbrev pub invariant-loop-a : goal.invariant-loop-a
invariant-loop-a l =
    Gains (flat_map (assumption_axioms l.plain) (take l.a-index l.plain.assumptions)) l.fn.names.items l.names.items
