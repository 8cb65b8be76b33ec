use Rattle.std.proofs.Common.{ap, get_or, sym, ◌∙◌}
use Rattle.aba_encoding.specs.Listing.{assumption_axioms}
use Rattle.aba_encoding.proofs.ListingLemmas.{flat_all, flat_more, gains_nothing}
use Rattle.aba_encoding.proofs.needed_axioms.push_assumptions.Goals as goal

pub loop-a-init : goal.loop-a-init
loop-a-init c = gains_nothing c.args.names.now.items

pub loop-a-preserved : goal.loop-a-preserved
loop-a-preserved c =
    let f = c.args.plain.now in
    let k = c.loop-a.a-index in
    let are = c.as_slice-a-items.ensures.value ∙ c.assumptions.ensures.value in
    flat_more (assumption_axioms f) f.assumptions k 0 (get_or c.as_slice-a-items.result.now k 0) _ _ _
    (rw are at c.loop-a-test.true) (ap (λ xs. get_or xs k 0) (sym are)) c.loop-a.invariant
    c.in_ok-push_assumption.ensures

pub returns-clause-gains : goal.returns-clause-gains
returns-clause-gains c =
    let f = c.args.plain.now in
    flat_all (assumption_axioms f) f.assumptions c.loop-a.a-index _ _
    (rw (c.as_slice-a-items.ensures.value ∙ c.assumptions.ensures.value) at c.loop-a-test.false) c.loop-a.invariant
