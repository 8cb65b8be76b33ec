use Rattle.aba_encoding.specs.Listing.{atom_axioms, head_end, head_step}
use Rattle.aba_encoding.proofs.ListingLemmas.{HasLeft, numbers_at}
use Rattle.aba_encoding.proofs.needed_axioms.push_atom.Given as goal

abbrev pub invariant-loop-pair : goal.invariant-loop-pair
invariant-loop-pair l =
    HasLeft (head_step l.x) (head_end l.x) (atom_axioms l.plain l.x) (numbers_at l.numbers l.pair-items) l.pair-index
    l.position l.fn.names.items l.names.items
