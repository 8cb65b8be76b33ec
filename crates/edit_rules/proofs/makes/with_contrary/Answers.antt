use Rattle.edit_rules.specs.AbaEdits.{aba_with_contrary}
use Rattle.edit_rules.specs.AbaEdits.{with_contrary}
use Rattle.edit_rules.proofs.BehindLemmas.{set_members}
use Rattle.edit_rules.proofs.AbaRowForms.{with_contrary_form}
use Rattle.edit_rules.proofs.MadeFrameworks.{contraries_fit, made_with}
use Rattle.edit_rules.proofs.makes.with_contrary.Goals as goal

pub with_contraries-requires : goal.with_contraries-requires
with_contraries-requires c =
    contraries_fit (aba_with_contrary c.args.plain.now c.args.assumption c.args.contrary) _
    (with_contrary_form c.args.plain.now c.args.assumption c.args.contrary c.contraries.ensures.form c.requires)
    (set_members c.args.assumption c.args.contrary c.args.plain.now.contraries _ _ c.contraries.ensures.value
    c.in_ok-contraries.ensures)

pub returns : goal.returns
returns c =
    made_with c.args.plain.now _ (with_contrary c.args.assumption c.args.contrary c.args.plain.now.contraries) c.with_contraries.result
    (with_contrary_form c.args.plain.now c.args.assumption c.args.contrary c.contraries.ensures.form c.requires)
    (set_members c.args.assumption c.args.contrary c.args.plain.now.contraries _ _ c.contraries.ensures.value
    c.in_ok-contraries.ensures)
    c.with_contraries.ensures
