use Rattle.std.proofs.Common.{◌∙◌, ap, not, ◌==◌, filter}
use Rattle.edit_rules.specs.Edits.{af_without_argument, is_end}
use Rattle.edit_rules.proofs.RowForms.{without_argument_form}
use Rattle.edit_rules.proofs.NumberLists.{equal_members}
use Rattle.edit_rules.proofs.SameFrameworks.{are_arguments, are_between, made}
use Rattle.edit_rules.proofs.edits.without_argument.Goals as goal

pub new-requires-clause-arguments : goal.new-requires-clause-arguments
new-requires-clause-arguments c =
    are_arguments (af_without_argument c.args.plain.now c.args.number) _
    (without_argument_form c.args.plain.now c.args.number c.live.ensures.form)
    (c.in_ok-live.ensures ∙ ap (filter (λ a. not (a == c.args.number))) c.live.ensures.value)

pub new-requires-clause-between : goal.new-requires-clause-between
new-requires-clause-between c =
    are_between (af_without_argument c.args.plain.now c.args.number) _ _
    (without_argument_form c.args.plain.now c.args.number c.live.ensures.form)
    (c.in_ok-live.ensures ∙ ap (filter (λ a. not (a == c.args.number))) c.live.ensures.value)
    (equal_members _ _ (c.in_ok-kept.ensures
    ∙ ap (filter (λ p. not (is_end c.args.number p))) (c.deref.ensures.value ∙ c.in_ok-attacks.ensures.value)))

pub returns : goal.returns
returns c =
    made (af_without_argument c.args.plain.now c.args.number) _ _
    c.new.result
    (without_argument_form c.args.plain.now c.args.number c.live.ensures.form)
    (c.in_ok-live.ensures ∙ ap (filter (λ a. not (a == c.args.number))) c.live.ensures.value)
    (equal_members _ _ (c.in_ok-kept.ensures
    ∙ ap (filter (λ p. not (is_end c.args.number p))) (c.deref.ensures.value ∙ c.in_ok-attacks.ensures.value)))
    c.new.ensures.live c.new.ensures.attacks c.new.ensures.form
