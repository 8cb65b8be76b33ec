use Rattle.std.proofs.Common.{map}
use Rattle.aba_encoding.specs.Listing.{assumption_axioms, contrary_end, contrary_step}
use Rattle.aba_encoding.proofs.ListingLemmas.{HasLeft}
use Rattle.aba_encoding.proofs.needed_axioms.push_assumption.Given as goal

abbrev pub invariant-loop-pair : goal.invariant-loop-pair
invariant-loop-pair l =
    HasLeft (contrary_step l.a) (contrary_end l.a) (assumption_axioms l.plain l.a) (map (λ p. p.1) l.pair-items)
    l.pair-index l.position l.fn.names.items l.names.items
