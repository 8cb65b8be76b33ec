use Rattle.std.proofs.Common.{ℕ, arith, ap, get_or, length}
use Rattle.std.proofs.lemmas.List.{get_or-map, length-map}
use Rattle.std.proofs.lemmas.List.Elements.{Contains-get_or}
use Rattle.semantics.specs.Rules.{Rule}
use Rattle.aba_encoding.specs.Listing.{atom_axioms, head_end, head_step}
use Rattle.aba_encoding.proofs.ListingLemmas.{heading_is, left_begins, left_ends, left_goes, numbers_at}
use Rattle.aba_encoding.proofs.RuleLemmas.{atom_is, number_high, own_axioms}
use Rattle.aba_encoding.proofs.needed_axioms.push_atom.Goals as goal

pub loop-pair-init : goal.loop-pair-init
loop-pair-init c =
    let f = c.args.plain.now in
    let numbers = c.rule_numbers-numbers.result.now in
    let items = c.headed_by-pair-items.result.now in
    left_begins (head_step c.args.x) (head_end c.args.x) (atom_axioms f c.args.x) (numbers_at numbers items)
    (own_axioms c.args.x) _ _ c.in_ok-push_all.ensures
    (atom_is f c.args.x (numbers_at numbers items)
    (heading_is f c.rule_numbers-numbers.ensures.form c.args.x numbers items c.rule_numbers-numbers.ensures.value
    c.headed_by-pair-items.ensures.rise c.headed_by-pair-items.ensures.rules))

pub bounds-numbers-pair : goal.bounds-numbers-pair
bounds-numbers-pair c =
    let f = c.args.plain.now in
    let items = c.headed_by-pair-items.result.now in
    let p = get_or items c.loop-pair.pair-index (0, 0) in
    let within = ((c.headed_by-pair-items.ensures.rules p.0 p.1).0
    (Contains-get_or items c.loop-pair.pair-index (0, 0) c.loop-pair-test.true)).1 in
    let long = length-map f.rules (λ (r : Rule). r.number) in
    let same = ap length c.rule_numbers-numbers.ensures.value in
    omega arith

pub overflow_add-position : goal.overflow_add-position
overflow_add-position c =
    let f = c.args.plain.now in
    let items = c.headed_by-pair-items.result.now in
    let p = get_or items c.loop-pair.pair-index (0, 0) in
    let within = ((c.headed_by-pair-items.ensures.rules p.0 p.1).0
    (Contains-get_or items c.loop-pair.pair-index (0, 0) c.loop-pair-test.true)).1 in
    let high = number_high f c.rule_numbers-numbers.ensures.form c.rule_numbers-numbers.result.now
    c.rule_numbers-numbers.ensures.value p.1 within in
    omega arith

pub loop-pair-preserved : goal.loop-pair-preserved
loop-pair-preserved c =
    let numbers = c.rule_numbers-numbers.result.now in
    let items = c.headed_by-pair-items.result.now in
    let k = c.loop-pair.pair-index in
    let at : ℕ × ℕ → ℕ = λ p. get_or numbers p.1 0 in
    left_goes (head_step c.args.x) (head_end c.args.x) (atom_axioms c.args.plain.now c.args.x)
    (numbers_at numbers items) k c.loop-pair.position (at (get_or items k (0, 0))) _ _ _ c.loop-pair.invariant
    (omega (arith, length-map items at, c.loop-pair-test.true)) (get_or-map at items k (0, 0) 0 c.loop-pair-test.true)
    c.in_ok-push_all-2.ensures

pub returns : goal.returns
returns c =
    let numbers = c.rule_numbers-numbers.result.now in
    let items = c.headed_by-pair-items.result.now in
    let at : ℕ × ℕ → ℕ = λ p. get_or numbers p.1 0 in
    left_ends (head_step c.args.x) (head_end c.args.x) (atom_axioms c.args.plain.now c.args.x)
    (numbers_at numbers items) c.loop-pair.pair-index c.loop-pair.position _ _ _ c.loop-pair.invariant
    (omega (arith, length-map items at, c.loop-pair-test.false)) c.in_ok-push_all-3.ensures
