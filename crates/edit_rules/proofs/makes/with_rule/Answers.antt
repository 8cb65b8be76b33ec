use Rattle.std.proofs.Common.{◌∙◌, arith}
use Rattle.edit_rules.specs.AbaEdits.{aba_with_rule}
use Rattle.edit_rules.proofs.BehindLemmas.{all_lists, parts_with_rule}
use Rattle.edit_rules.proofs.MadeFrameworks.{few_rules, made, parts}
use Rattle.edit_rules.proofs.AbaRowForms.{with_rule_form}
use Rattle.edit_rules.proofs.RuleLists.{lists_long}
use Rattle.edit_rules.proofs.makes.with_rule.Goals as goal

pub new-requires : goal.new-requires
new-requires c =
    parts (aba_with_rule c.args.plain.now c.args.head c.args.body.now) _ _ _ _ _
    (with_rule_form c.args.plain.now c.args.head c.args.body.now c.assumptions.ensures.form c.requires)
    (parts_with_rule c.args.plain.now c.args.head c.args.body.now _ _ _ _ _ c.in_ok-rules.rules
    c.push_rule.new.rules c.assumptions.ensures.form
    c.atoms.ensures.value (c.in_ok-assumptions.ensures.same ∙ c.assumptions.ensures.value)
    (c.in_ok-contraries.ensures.items ∙ c.contraries.ensures.value) c.in_ok-rules.ensures c.next.ensures.value
    c.in_ok-push_rule.ensures.numbers c.in_ok-push_rule.ensures.heads c.in_ok-push_rule.ensures.bodies
    c.next-2.ensures.value)

pub returns : goal.returns
returns c =
    made (aba_with_rule c.args.plain.now c.args.head c.args.body.now) _ _ _ _ _ c.new.result
    (with_rule_form c.args.plain.now c.args.head c.args.body.now c.assumptions.ensures.form c.requires)
    (parts_with_rule c.args.plain.now c.args.head c.args.body.now _ _ _ _ _ c.in_ok-rules.rules
    c.push_rule.new.rules c.assumptions.ensures.form
    c.atoms.ensures.value (c.in_ok-assumptions.ensures.same ∙ c.assumptions.ensures.value)
    (c.in_ok-contraries.ensures.items ∙ c.contraries.ensures.value) c.in_ok-rules.ensures c.next.ensures.value
    c.in_ok-push_rule.ensures.numbers c.in_ok-push_rule.ensures.heads c.in_ok-push_rule.ensures.bodies
    c.next-2.ensures.value)
    c.new.ensures.atoms c.new.ensures.assumptions c.new.ensures.contraries c.new.ensures.rules c.new.ensures.next
    c.new.ensures.form

pub push_rule-requires : goal.push_rule-requires
push_rule-requires c =
    omega (
      arith,
      lists_long _ _ (all_lists c.args.plain.now c.in_ok-rules.rules c.assumptions.ensures.form c.in_ok-rules.ensures),
      few_rules c.args.plain.now c.assumptions.ensures.form,
    )
