use Rattle.std.proofs.Common.{arith, ap, length, refl}
use Rattle.std.proofs.lemmas.List.{length-map}
use Rattle.semantics.specs.Rules.{Rule}
use Rattle.aba_facts.proofs.FactLemmas.{few}
use Rattle.aba_notions.specs.Storage.{no_rule, rule_at}
use Rattle.aba_encoding.specs.Listing.{rule_axioms}
use Rattle.aba_encoding.proofs.ListingLemmas.{flat_all, flat_more, gains_nothing}
use Rattle.aba_encoding.proofs.needed_axioms.push_rules.Goals as goal

pub overflow_cast-index : goal.overflow_cast-index
overflow_cast-index c =
    let f = c.args.plain.now in
    let within = c.loop-index-test.true in
    let long = length-map f.rules (λ (r : Rule). r.number) in
    let same = ap length c.rule_numbers-index-end.ensures.value in
    let less = few f c.rule_numbers-index-end.ensures.form in
    let next = c.rule_numbers-index-end.ensures.form.rules in
    omega arith

pub push_rule-requires : goal.push_rule-requires
push_rule-requires c =
    let within = c.loop-index-test.true in
    let long = length-map c.args.plain.now.rules (λ (r : Rule). r.number) in
    let same = ap length c.rule_numbers-index-end.ensures.value in
    omega arith

pub loop-index-init : goal.loop-index-init
loop-index-init c = gains_nothing c.args.names.now.items

pub loop-index-preserved : goal.loop-index-preserved
loop-index-preserved c =
    let rules = c.args.plain.now.rules in
    let k = c.loop-index.index in
    let within = c.loop-index-test.true in
    let long = length-map rules (λ (r : Rule). r.number) in
    let same = ap length c.rule_numbers-index-end.ensures.value in
    flat_more rule_axioms rules k no_rule (rule_at rules k) _ _ _ (omega arith) refl c.loop-index.invariant
    c.in_ok-push_rule.ensures

pub returns : goal.returns
returns c =
    let rules = c.args.plain.now.rules in
    let past = c.loop-index-test.false in
    let long = length-map rules (λ (r : Rule). r.number) in
    let same = ap length c.rule_numbers-index-end.ensures.value in
    flat_all rule_axioms rules c.loop-index.index _ _ (omega arith) c.loop-index.invariant
