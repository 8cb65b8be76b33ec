use Rattle.edit_rules.specs.AbaEdits.{aba_without_pair}
use Rattle.std.proofs.Common.{ap, ◌∙◌}
use Rattle.edit_rules.specs.Pairs.{without_pair}
use Rattle.edit_rules.proofs.NumberLists.{equal_members}
use Rattle.edit_rules.proofs.AbaRowForms.{without_pair_form}
use Rattle.edit_rules.proofs.MadeFrameworks.{contraries_fit, made_with}
use Rattle.edit_rules.proofs.makes.without_pair.Goals as goal

pub with_contraries-requires : goal.with_contraries-requires
with_contraries-requires c =
    contraries_fit (aba_without_pair c.args.plain.now c.args.assumption c.args.contrary) _
    (without_pair_form c.args.plain.now c.args.assumption c.args.contrary c.contraries.ensures.form)
    (equal_members _ (without_pair (c.args.assumption, c.args.contrary) c.args.plain.now.contraries)
    (c.in_ok-contraries.ensures ∙ ap (without_pair (c.args.assumption, c.args.contrary)) c.contraries.ensures.value))

pub returns : goal.returns
returns c =
    made_with c.args.plain.now _ (without_pair (c.args.assumption, c.args.contrary) c.args.plain.now.contraries) c.with_contraries.result
    (without_pair_form c.args.plain.now c.args.assumption c.args.contrary c.contraries.ensures.form)
    (equal_members _ (without_pair (c.args.assumption, c.args.contrary) c.args.plain.now.contraries)
    (c.in_ok-contraries.ensures ∙ ap (without_pair (c.args.assumption, c.args.contrary)) c.contraries.ensures.value))
    c.with_contraries.ensures
