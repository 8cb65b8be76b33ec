use Rattle.std.proofs.Common.{◌∙◌}
use Rattle.edit_rules.specs.AbaEdits.{aba_without_rule}
use Rattle.edit_rules.proofs.BehindLemmas.{parts_without_rule}
use Rattle.edit_rules.proofs.MadeFrameworks.{made, parts}
use Rattle.edit_rules.proofs.AbaRowForms.{without_rule_form}
use Rattle.edit_rules.proofs.makes.without_rule.Goals as goal

pub new-requires : goal.new-requires
new-requires c =
    parts (aba_without_rule c.args.plain.now c.args.number) _ _ _ _ _
    (without_rule_form c.args.plain.now c.args.number c.assumptions.ensures.form)
    (parts_without_rule c.args.plain.now c.args.number _ _ _ _ _ c.atoms.ensures.value
    (c.in_ok-assumptions.ensures.same ∙ c.assumptions.ensures.value)
    (c.in_ok-contraries.ensures.items ∙ c.contraries.ensures.value) c.in_ok-rules.ensures c.next.ensures.value)

pub returns : goal.returns
returns c =
    made (aba_without_rule c.args.plain.now c.args.number) _ _ _ _ _ c.new.result
    (without_rule_form c.args.plain.now c.args.number c.assumptions.ensures.form)
    (parts_without_rule c.args.plain.now c.args.number _ _ _ _ _ c.atoms.ensures.value
    (c.in_ok-assumptions.ensures.same ∙ c.assumptions.ensures.value)
    (c.in_ok-contraries.ensures.items ∙ c.contraries.ensures.value) c.in_ok-rules.ensures c.next.ensures.value)
    c.new.ensures.atoms c.new.ensures.assumptions c.new.ensures.contraries c.new.ensures.rules c.new.ensures.next
    c.new.ensures.form
