use Rattle.std.proofs.Common.{◌∙◌}
use Rattle.edit_rules.specs.Edits.{af_with_argument}
use Rattle.edit_rules.proofs.NumberLists.{joined_number, equal_members}
use Rattle.edit_rules.proofs.RowForms.{with_argument_form}
use Rattle.edit_rules.proofs.SameFrameworks.{are_arguments, are_between, made}
use Rattle.edit_rules.proofs.edits.with_argument.Goals as goal

pub new-requires-clause-arguments : goal.new-requires-clause-arguments
new-requires-clause-arguments c =
    are_arguments (af_with_argument c.args.plain.now c.args.number) _
    (with_argument_form c.args.plain.now c.args.number c.live.ensures.form c.requires)
    (joined_number c.args.plain.now.live _ _ c.args.number (c.in_ok-live.ensures ∙ c.live.ensures.value)
    c.live.ensures.form.form.live_rises c.in_ok-insert.ensures.ok)

pub new-requires-clause-between : goal.new-requires-clause-between
new-requires-clause-between c =
    are_between (af_with_argument c.args.plain.now c.args.number) _ _
    (with_argument_form c.args.plain.now c.args.number c.live.ensures.form c.requires)
    (joined_number c.args.plain.now.live _ _ c.args.number (c.in_ok-live.ensures ∙ c.live.ensures.value)
    c.live.ensures.form.form.live_rises c.in_ok-insert.ensures.ok)
    (equal_members _ _ (c.in_ok-attacks.ensures.value))

pub returns : goal.returns
returns c =
    made (af_with_argument c.args.plain.now c.args.number) _ _
    c.new.result
    (with_argument_form c.args.plain.now c.args.number c.live.ensures.form c.requires)
    (joined_number c.args.plain.now.live _ _ c.args.number (c.in_ok-live.ensures ∙ c.live.ensures.value)
    c.live.ensures.form.form.live_rises c.in_ok-insert.ensures.ok)
    (equal_members _ _ (c.in_ok-attacks.ensures.value))
    c.new.ensures.live c.new.ensures.attacks c.new.ensures.form
