use Rattle.std.proofs.Common.{◌∙◌}
use Rattle.edit_rules.specs.AbaEdits.{aba_without_assumption}
use Rattle.edit_rules.proofs.BehindLemmas.{parts_without_assumption}
use Rattle.edit_rules.proofs.MadeFrameworks.{made, parts}
use Rattle.edit_rules.proofs.AbaRowForms.{without_assumption_form}
use Rattle.edit_rules.proofs.makes.without_assumption.Goals as goal

pub new-requires : goal.new-requires
new-requires c =
    parts (aba_without_assumption c.args.plain.now c.args.assumption) _ _ _ _ _
    (without_assumption_form c.args.plain.now c.args.assumption c.assumptions.ensures.form)
    (parts_without_assumption c.args.plain.now c.args.assumption _ _ _ _ _ _ _ c.assumptions.ensures.form
    c.atoms.ensures.value (c.as_slice.ensures.value ∙ c.assumptions.ensures.value) c.in_ok-assumptions.ensures
    c.contraries.ensures.value c.in_ok-contraries.ensures c.in_ok-rules.ensures c.next.ensures.value)

pub returns : goal.returns
returns c =
    made (aba_without_assumption c.args.plain.now c.args.assumption) _ _ _ _ _ c.new.result
    (without_assumption_form c.args.plain.now c.args.assumption c.assumptions.ensures.form)
    (parts_without_assumption c.args.plain.now c.args.assumption _ _ _ _ _ _ _ c.assumptions.ensures.form
    c.atoms.ensures.value (c.as_slice.ensures.value ∙ c.assumptions.ensures.value) c.in_ok-assumptions.ensures
    c.contraries.ensures.value c.in_ok-contraries.ensures c.in_ok-rules.ensures c.next.ensures.value)
    c.new.ensures.atoms c.new.ensures.assumptions c.new.ensures.contraries c.new.ensures.rules c.new.ensures.next
    c.new.ensures.form
