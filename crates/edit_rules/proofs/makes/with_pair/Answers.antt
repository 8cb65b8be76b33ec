use Rattle.edit_rules.specs.AbaEdits.{aba_with_pair}
use Rattle.std.proofs.Common.{◌∙◌}
use Rattle.edit_rules.specs.Pairs.{with_pair}
use Rattle.edit_rules.proofs.PairLists.{pushed_pair}
use Rattle.edit_rules.proofs.AbaRowForms.{with_pair_form}
use Rattle.edit_rules.proofs.MadeFrameworks.{contraries_fit, made_with}
use Rattle.edit_rules.proofs.makes.with_pair.Goals as goal

pub with_contraries-requires : goal.with_contraries-requires
with_contraries-requires c =
    contraries_fit (aba_with_pair c.args.plain.now c.args.assumption c.args.contrary) _
    (with_pair_form c.args.plain.now c.args.assumption c.args.contrary c.contraries.ensures.form c.requires)
    (pushed_pair (c.args.assumption, c.args.contrary) c.args.plain.now.contraries _ _
    (c.in_ok-contraries.ensures.items ∙ c.contraries.ensures.value) c.in_ok-push.ensures.items)

pub returns : goal.returns
returns c =
    made_with c.args.plain.now _ (with_pair (c.args.assumption, c.args.contrary) c.args.plain.now.contraries) c.with_contraries.result
    (with_pair_form c.args.plain.now c.args.assumption c.args.contrary c.contraries.ensures.form c.requires)
    (pushed_pair (c.args.assumption, c.args.contrary) c.args.plain.now.contraries _ _
    (c.in_ok-contraries.ensures.items ∙ c.contraries.ensures.value) c.in_ok-push.ensures.items)
    c.with_contraries.ensures
