use Rattle.std.proofs.Common.{ℕ, arith, get_or, map}
use Rattle.std.proofs.lemmas.List.{get_or-map, length-map}
use Rattle.aba_notions.specs.Storage.{rule_at}
use Rattle.aba_encoding.specs.Listing.{body_end, body_step, rule_axioms}
use Rattle.aba_encoding.proofs.ListingLemmas.{left_begins, left_ends, left_goes}
use Rattle.aba_encoding.proofs.RuleLemmas.{body_high, head_axioms, rule_is}
use Rattle.aba_encoding.proofs.needed_axioms.push_rule.Goals as goal

pub loop-pair-init : goal.loop-pair-init
loop-pair-init c =
    let f = c.args.plain.now in
    let numbers = c.rule_numbers.result.now in
    let heads = c.rule_heads.result.now in
    left_begins (body_step (get_or numbers c.args.index 0)) (body_end (get_or numbers c.args.index 0))
    (rule_axioms (rule_at f.rules c.args.index)) (map (λ (p : ℕ × ℕ). p.1) c.body_of-pair-items.result.now)
    (head_axioms (get_or numbers c.args.index 0) (get_or heads c.args.index 0)) _ _ c.in_ok-push_all.ensures
    (rule_is f c.args.index numbers heads _ c.rule_numbers.ensures.value c.rule_heads.ensures.value c.requires
    c.body_of-pair-items.ensures.value)

pub overflow_add-position : goal.overflow_add-position
overflow_add-position c =
    let high = body_high c.args.plain.now c.rule_numbers.ensures.form c.args.index c.requires
    c.body_of-pair-items.result.now c.body_of-pair-items.ensures.value c.loop-pair.pair-index c.loop-pair-test.true in
    omega arith

pub loop-pair-preserved : goal.loop-pair-preserved
loop-pair-preserved c =
    let items = c.body_of-pair-items.result.now in
    let k = c.loop-pair.pair-index in
    let number = get_or c.rule_numbers.result.now c.args.index 0 in
    left_goes (body_step number) (body_end number) (rule_axioms (rule_at c.args.plain.now.rules c.args.index))
    (map (λ (p : ℕ × ℕ). p.1) items) k c.loop-pair.position (get_or items k (0, 0)).1 _ _ _ c.loop-pair.invariant
    (omega (arith, length-map items (λ (p : ℕ × ℕ). p.1), c.loop-pair-test.true))
    (get_or-map (λ (p : ℕ × ℕ). p.1) items k (0, 0) 0 c.loop-pair-test.true) c.in_ok-push_all-2.ensures

pub returns : goal.returns
returns c =
    let items = c.body_of-pair-items.result.now in
    let number = get_or c.rule_numbers.result.now c.args.index 0 in
    left_ends (body_step number) (body_end number) (rule_axioms (rule_at c.args.plain.now.rules c.args.index))
    (map (λ (p : ℕ × ℕ). p.1) items) c.loop-pair.pair-index c.loop-pair.position _ _ _ c.loop-pair.invariant
    (omega (arith, length-map items (λ (p : ℕ × ℕ). p.1), c.loop-pair-test.false)) c.in_ok-push_all-3.ensures
