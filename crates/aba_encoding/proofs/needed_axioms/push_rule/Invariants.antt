use Rattle.std.proofs.Common.{map}
use Rattle.aba_notions.specs.Storage.{rule_at}
use Rattle.aba_encoding.specs.Listing.{body_end, body_step, rule_axioms}
use Rattle.aba_encoding.proofs.ListingLemmas.{HasLeft}
use Rattle.aba_encoding.proofs.needed_axioms.push_rule.Given as goal

abbrev pub invariant-loop-pair : goal.invariant-loop-pair
invariant-loop-pair l =
    let rule = rule_at l.plain.rules l.index in
    HasLeft (body_step l.number) (body_end l.number) (rule_axioms rule) (map (λ p. p.1) l.pair-items)
    l.pair-index l.position l.fn.names.items l.names.items
