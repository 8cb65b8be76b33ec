use Rattle.std.proofs.Common.{[], ◌∷◌, Err}
use Rattle.edit_rules.specs.Edits.{end_refusals, outside, unknown}
use Rattle.edit_rules.specs.Applying.{AreTold}
use Rattle.edit_rules.proofs.RefusalLemmas.{handed_on}
use Rattle.edit_rules.proofs.RowOutcomes.{told_first, told_then}
use Rattle.edit_rules.proofs.edits.check_ends.Goals as goal

pub returns-in_err-check_range-clause-told : goal.returns-in_err-check_range-clause-told
returns-in_err-check_range-clause-told c =
    handed_on (AreTold (end_refusals c.args.plain.now c.args.attacker c.args.target)) c.from_residual.result
    c.in_err-check_range.field-0.0 c.from_residual.ensures
    (told_first (outside c.args.attacker ∷ []) (outside c.args.target ∷ unknown c.args.plain.now c.args.attacker
    ∷ unknown c.args.plain.now c.args.target ∷ []) _ c.in_err-check_range.ensures.told)

pub returns-in_err-check_range-2-clause-told : goal.returns-in_err-check_range-2-clause-told
returns-in_err-check_range-2-clause-told c =
    handed_on (AreTold (end_refusals c.args.plain.now c.args.attacker c.args.target))
    c.from_residual-in_err-check_range-2.result
    c.in_err-check_range-2.field-0.0 c.from_residual-in_err-check_range-2.ensures
    (told_first (outside c.args.attacker ∷ outside c.args.target ∷ []) (unknown c.args.plain.now c.args.attacker
    ∷ unknown c.args.plain.now c.args.target ∷ []) _
    (told_then (outside c.args.attacker ∷ []) (outside c.args.target ∷ [])
    (Err c.in_err-check_range-2.field-0.0) c.in_ok-check_range.ensures.told
    c.in_err-check_range-2.ensures.told))

pub returns-in_err-check_live-clause-told : goal.returns-in_err-check_live-clause-told
returns-in_err-check_live-clause-told c =
    handed_on (AreTold (end_refusals c.args.plain.now c.args.attacker c.args.target))
    c.from_residual-in_err-check_live.result
    c.in_err-check_live.field-0.0 c.from_residual-in_err-check_live.ensures
    (told_first (outside c.args.attacker ∷ outside c.args.target ∷ unknown c.args.plain.now c.args.attacker ∷ [])
    (unknown c.args.plain.now c.args.target ∷ []) _
    (told_then (outside c.args.attacker ∷ []) (outside c.args.target
    ∷ unknown c.args.plain.now c.args.attacker ∷ [])
    (Err c.in_err-check_live.field-0.0) c.in_ok-check_range.ensures.told
    (told_then (outside c.args.target ∷ []) (unknown c.args.plain.now c.args.attacker ∷ [])
    (Err c.in_err-check_live.field-0.0) c.in_ok-check_range-2.ensures.told c.in_err-check_live.ensures.told)))
