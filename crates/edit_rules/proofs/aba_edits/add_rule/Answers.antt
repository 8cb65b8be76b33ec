use Rattle.std.proofs.Common.{◌∙◌, ap, sym, inr, Ok}
use Rattle.edit_rules.specs.declared.edit.Edit.TheVariants.{RuleAdd}
use Rattle.edit_rules.proofs.RefusalLemmas.{handed_on, none_stands, told}
use Rattle.edit_rules.specs.AbaEdits.{aba_row_outcome, rule_added, rule_effect}
use Rattle.edit_rules.specs.Parts.{ComesTo}
use Rattle.edit_rules.proofs.aba_edits.add_rule.Goals as goal

pub returns-in_err-check_rule : goal.returns-in_err-check_rule
returns-in_err-check_rule c =
    let row = rule_added c.args.plain.now c.args.head c.args.body.now in
    handed_on (ComesTo (aba_row_outcome row)) c.from_residual.result c.in_err-check_rule.field-0.0
    c.from_residual.ensures
    (inr (told row.refusals (row.framework, row.effect) c.in_err-check_rule.field-0.0
    (sym c.in_err-check_rule.ensures)))

pub returns : goal.returns
returns c =
    let row = rule_added c.args.plain.now c.args.head c.args.body.now in
    none_stands row.refusals (row.framework, row.effect) (sym c.in_ok-check_rule.ensures)
    ∙ ap (λ g. Ok (g, row.effect)) (sym c.in_ok-after.ensures)
    ∙ ap (λ e. Ok (c.in_ok-after.after, e)) (sym (c.numbered_effect.ensures
    ∙ ap (λ e. rule_effect e c.next.result) c.in_ok-edit.ensures
    ∙ ap (rule_effect (RuleAdd c.args.head c.args.body.now)) c.next.ensures.value))
