use Rattle.std.proofs.Common.{◌∙◌, inr, [], ◌∷◌}
use Rattle.edit_rules.specs.Edits.{argument_dropped, row_outcome, unknown}
use Rattle.edit_rules.specs.Applying.{ComesTo}
use Rattle.edit_rules.proofs.RefusalLemmas.{handed_on}
use Rattle.edit_rules.proofs.edits.drop_argument.Goals as goal

pub returns-in_err-check_range : goal.returns-in_err-check_range
returns-in_err-check_range c =
    let row = argument_dropped c.args.plain.now c.args.number in
    handed_on (ComesTo (row_outcome row)) c.from_residual.result
    c.in_err-check_range.field-0.0 c.from_residual.ensures
    (inr (c.in_err-check_range.ensures.told (unknown c.args.plain.now c.args.number ∷ []) (row.framework, row.effect)))

pub returns-in_err-check_live : goal.returns-in_err-check_live
returns-in_err-check_live c =
    let row = argument_dropped c.args.plain.now c.args.number in
    handed_on (ComesTo (row_outcome row)) c.from_residual-in_err-check_live.result
    c.in_err-check_live.field-0.0 c.from_residual-in_err-check_live.ensures
    (inr (c.in_ok-check_range.ensures.told (unknown c.args.plain.now c.args.number ∷ []) (row.framework, row.effect)
    ∙ c.in_err-check_live.ensures.told [] (row.framework, row.effect)))
