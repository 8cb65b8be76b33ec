use Rattle.std.proofs.Common.{◌∙◌, sym, ap, refl, inr, [], ◌∷◌}
use Rattle.semantics.specs.Frameworks.{af}
use Rattle.edit_rules.specs.Numbers.{has_number}
use Rattle.edit_rules.specs.Refusals.{refused_if}
use Rattle.edit_rules.specs.Edits.{argument_added, outside, row_outcome}
use Rattle.edit_rules.specs.Applying.{ComesTo}
use Rattle.edit_rules.specs.declared.effect.EditFault.TheVariants.{ArgumentIsThere}
use Rattle.edit_rules.proofs.EditWordTests.{there_number, number_there, is_false, not_so}
use Rattle.edit_rules.proofs.RefusalLemmas.{handed_on}
use Rattle.edit_rules.proofs.RowOutcomes.{done_behind, refused_behind}
use Rattle.edit_rules.proofs.edits.add_argument.Goals as goal

pub returns-in_err-check_range : goal.returns-in_err-check_range
returns-in_err-check_range c =
    let row = argument_added c.args.plain.now c.args.number in
    handed_on (ComesTo (row_outcome row)) c.from_residual.result
    c.in_err-check_range.field-0.0 c.from_residual.ensures
    (inr (c.in_err-check_range.ensures.told
    (refused_if (has_number c.args.plain.now.live c.args.number) ArgumentIsThere ∷ []) (row.framework, row.effect)))

pub returns-then-is_live : goal.returns-then-is_live
returns-then-is_live c =
    let row = argument_added c.args.plain.now c.args.number in
    inr (refused_behind (outside c.args.number ∷ [])
    (refused_if (has_number c.args.plain.now.live c.args.number) ArgumentIsThere) (row.framework, row.effect) _
    c.in_ok-check_range.ensures.told
    (there_number c.args.plain.now.live c.args.number (c.is_live.ensures.0 c.if-is_live.true)) refl)

pub returns : goal.returns
returns c =
    let row = argument_added c.args.plain.now c.args.number in
    done_behind (outside c.args.number ∷ [])
    (refused_if (has_number c.args.plain.now.live c.args.number) ArgumentIsThere) (row.framework, row.effect) _
    c.in_ok-check_range.ensures.told
    (is_false (has_number c.args.plain.now.live c.args.number) (λ t.
    not_so c.is_live.result _ c.is_live.ensures c.if-is_live.false
    (number_there c.args.plain.now.live c.args.number t)))
    (ap (λ f. (af f, row.effect)) (sym c.in_ok-after.ensures)
    ∙ ap (λ e. (af c.in_ok-after.after, e)) (sym c.of_edit.ensures))
