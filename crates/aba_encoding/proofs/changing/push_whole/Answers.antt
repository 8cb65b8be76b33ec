use Rattle.aba_encoding.specs.Brought.{by_assumption}
use Rattle.aba_encoding.specs.Listing.{assumption_axioms}
use Rattle.aba_encoding.proofs.GainedLemmas.{assumption_listed, on_brought}
use Rattle.aba_encoding.proofs.changing.push_whole.Goals as goal

pub returns : goal.returns
returns c =
    let f = c.args.plain.now in
    let a = c.args.assumption in
    on_brought (by_assumption f a) (assumption_axioms f a) _ _ c.push_assumption.result
    (assumption_listed f c.next-next.ensures.form a) c.push_assumption.ensures
