use Rattle.std.proofs.Common.{arith, ap, length}
use Rattle.std.proofs.lemmas.List.{length-map}
use Rattle.semantics.specs.Rules.{Rule}
use Rattle.aba_facts.proofs.FactLemmas.{few, index_made, none_here, none_past}
use Rattle.aba_facts.proofs.rule_parts.index_of.Goals as goal

pub returns-then-index-numbers-clause-none : goal.returns-then-index-numbers-clause-none
returns-then-index-numbers-clause-none c = none_past c.args.plain.now c.rule_numbers-numbers.ensures.form
    c.rule_numbers-numbers.result.now c.numbers_below-index.result c.args.number c.rule_numbers-numbers.ensures.value
    c.numbers_below-index.ensures c.if-index-numbers.true

pub returns-then-numbers-index-clause-none : goal.returns-then-numbers-index-clause-none
returns-then-numbers-index-clause-none c = none_here c.args.plain.now c.rule_numbers-numbers.ensures.form
    c.rule_numbers-numbers.result.now c.numbers_below-index.result c.args.number c.rule_numbers-numbers.ensures.value
    c.numbers_below-index.ensures (let within = c.if-index-numbers.false in omega arith) c.if-numbers-index.true

pub overflow_cast-result : goal.overflow_cast-result
overflow_cast-result c =
    let f = c.args.plain.now in
    let within = c.if-index-numbers.false in
    let long = length-map f.rules (λ (r : Rule). r.number) in
    let same = ap length c.rule_numbers-numbers.ensures.value in
    let less = few f c.rule_numbers-numbers.ensures.form in
    let next = c.rule_numbers-numbers.ensures.form.rules in
    omega arith

pub returns-clause-some : goal.returns-clause-some
returns-clause-some c = index_made c.args.plain.now c.rule_numbers-numbers.ensures.form
    c.rule_numbers-numbers.result.now c.numbers_below-index.result c.args.number c.rule_numbers-numbers.ensures.value
    (let within = c.if-index-numbers.false in omega arith) c.if-numbers-index.false
