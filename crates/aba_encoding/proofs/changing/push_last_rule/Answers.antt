use Rattle.std.proofs.Common.{◌-◌, ℕ, arith, subst, OnOk}
use Rattle.aba_notions.specs.Storage.{rule_at}
use Rattle.aba_encoding.specs.Listing.{Gains, rule_axioms}
use Rattle.aba_encoding.specs.Brought.{GainsBrought, by_rule_head}
use Rattle.aba_encoding.proofs.LastRules.{last_number, last_there, number_bounds, numbers_few, numbers_long}
use Rattle.aba_encoding.proofs.GainedLemmas.{on_last_rule}
use Rattle.aba_encoding.proofs.changing.push_last_rule.Goals as goal

pub overflow_cast-index : goal.overflow_cast-index
overflow_cast-index c =
    let few = numbers_few c.args.plain.now c.rule_numbers.ensures.form c.rule_numbers.result.now
    c.rule_numbers.ensures.value in
    omega arith

pub push_round-requires-clause-low : goal.push_round-requires-clause-low
push_round-requires-clause-low c =
    (number_bounds c.args.plain.now c.rule_numbers.ensures.form c.rule_numbers.result.now c.rule_numbers-2.result.now
    c.rule_numbers.ensures.value c.rule_numbers-2.ensures.value c.requires).0

pub push_round-requires-clause-high : goal.push_round-requires-clause-high
push_round-requires-clause-high c =
    (number_bounds c.args.plain.now c.rule_numbers.ensures.form c.rule_numbers.result.now c.rule_numbers-2.result.now
    c.rule_numbers.ensures.value c.rule_numbers-2.ensures.value c.requires).1

pub returns : goal.returns
returns c =
    let f = c.args.plain.now in
    let form = c.rule_numbers.ensures.form in
    let numbers = c.rule_numbers.result.now in
    let again = c.rule_numbers-2.result.now in
    let mid = c.push_rule.new.names.items in
    on_last_rule f c.args.head form (last_there f c.requires) c.args.names.now.items mid c.push_round.new.names.items
    c.push_round.result
    (subst (λ (n : ℕ). Gains (rule_axioms (rule_at f.rules (n - 1))) c.args.names.now.items mid)
    (numbers_long f form numbers c.rule_numbers.ensures.value) c.in_ok-push_rule.ensures)
    (subst (λ (n : ℕ). OnOk c.push_round.result
    (GainsBrought (by_rule_head f c.args.head n) mid c.push_round.new.names.items))
    (last_number f form numbers again c.rule_numbers.ensures.value c.rule_numbers-2.ensures.value c.requires)
    c.push_round.ensures)
