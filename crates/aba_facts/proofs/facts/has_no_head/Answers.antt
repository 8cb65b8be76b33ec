use Rattle.std.proofs.Common.{arith, ap, length}
use Rattle.std.proofs.lemmas.List.{length-map}
use Rattle.semantics.specs.Rules.{Rule}
use Rattle.aba_facts.proofs.FactLemmas.{few, listed_within, no_head_at, no_head_past, seconds_rise}
use Rattle.aba_facts.proofs.facts.has_no_head.Goals as goal

pub overflow_cast-first : goal.overflow_cast-first
overflow_cast-first c =
    let f = c.args.plain.now in
    let within = c.numbers_below-first.ensures.within in
    let long = length-map f.rules (λ (r : Rule). r.number) in
    let same = ap length c.rule_numbers-numbers.ensures.value in
    let less = few f c.rule_numbers-numbers.ensures.form in
    let next = c.rule_numbers-numbers.ensures.form.rules in
    omega arith

pub first_from-requires : goal.first_from-requires
first_from-requires c = seconds_rise c.headed_by.result.now c.args.head c.headed_by.ensures.rise
    (λ p there. ((c.headed_by.ensures.rules p.0 p.1).0 there).0)

pub bounds-numbers-index : goal.bounds-numbers-index
bounds-numbers-index c =
    let f = c.args.plain.now in
    let within = listed_within f c.headed_by.result.now c.args.head c.in-Some.index c.headed_by.ensures.rules
    c.in-Some.ensures.some.member in
    let long = length-map f.rules (λ (r : Rule). r.number) in
    let same = ap length c.rule_numbers-numbers.ensures.value in
    omega arith

pub returns-in-Some : goal.returns-in-Some
returns-in-Some c = no_head_at c.args.plain.now c.rule_numbers-numbers.ensures.form
    c.rule_numbers-numbers.result.now c.headed_by.result.now c.args.head c.args.begin c.args.end
    c.numbers_below-first.result c.in-Some.index c.rule_numbers-numbers.ensures.value c.headed_by.ensures.rules
    c.numbers_below-first.ensures c.in-Some.ensures.some

pub returns-in-None : goal.returns-in-None
returns-in-None c = no_head_past c.args.plain.now c.rule_numbers-numbers.ensures.form
    c.rule_numbers-numbers.result.now c.headed_by.result.now c.args.head c.args.begin c.args.end
    c.numbers_below-first.result c.rule_numbers-numbers.ensures.value c.headed_by.ensures.rules
    c.numbers_below-first.ensures c.in-None.ensures.none
