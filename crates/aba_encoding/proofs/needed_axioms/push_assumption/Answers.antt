use Rattle.std.proofs.Common.{ℕ, arith, get_or, map}
use Rattle.std.proofs.lemmas.List.{get_or-map, length-map}
use Rattle.aba_encoding.specs.Listing.{assumption_axioms, contrary_end, contrary_step}
use Rattle.aba_encoding.proofs.ContraryLemmas.{pair_under}
use Rattle.aba_encoding.proofs.ListingLemmas.{left_goes}
use Rattle.aba_encoding.proofs.needed_axioms.push_assumption.Goals as goal

pub overflow_add-position : goal.overflow_add-position
overflow_add-position c =
    let under = pair_under c.args.plain.now c.contraries_of-pair-items.ensures.form c.args.a
    c.contraries_of-pair-items.result.now c.contraries_of-pair-items.ensures.value c.loop-pair.pair-index
    c.loop-pair-test.true in
    omega arith

pub loop-pair-preserved : goal.loop-pair-preserved
loop-pair-preserved c =
    let items = c.contraries_of-pair-items.result.now in
    let k = c.loop-pair.pair-index in
    left_goes (contrary_step c.args.a) (contrary_end c.args.a) (assumption_axioms c.args.plain.now c.args.a)
    (map (λ (p : ℕ × ℕ). p.1) items) k c.loop-pair.position (get_or items k (0, 0)).1 _ _ _ c.loop-pair.invariant
    (omega (arith, length-map items (λ (p : ℕ × ℕ). p.1), c.loop-pair-test.true))
    (get_or-map (λ (p : ℕ × ℕ). p.1) items k (0, 0) 0 c.loop-pair-test.true) c.in_ok-push_all-2.ensures
