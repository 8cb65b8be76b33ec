use Rattle.std.proofs.Common.{◌≡◌, ◌∙◌, sym, [], ◌∷◌}
use Rattle.edit_rules.specs.declared.effect.EditFault.TheVariants.{ContraryIsThere}
use Rattle.edit_rules.specs.Pairs.{has_pair}
use Rattle.edit_rules.specs.Refusals.{refused_if, done_unless}
use Rattle.edit_rules.specs.AbaEdits.{contrary_added, pair_refusals}
use Rattle.edit_rules.proofs.RefusalLemmas.{handed_on, passed, passed_all, stopped, stopped_early}
use Rattle.edit_rules.proofs.checks.check_contrary_add.Goals as goal

pub returns-in_err-check_pair : goal.returns-in_err-check_pair
returns-in_err-check_pair c =
    let last = refused_if (has_pair c.args.plain.now.contraries (c.args.assumption, c.args.contrary)) ContraryIsThere in
    handed_on (λ r. r ≡ done_unless (contrary_added c.args.plain.now c.args.assumption c.args.contrary).refusals tt)
    c.from_residual.result c.in_err-check_pair.field-0.0 c.from_residual.ensures
    (sym (stopped_early (pair_refusals 1 c.args.plain.now c.args.assumption c.args.contrary) (last ∷ []) tt
    c.in_err-check_pair.field-0.0 (sym c.in_err-check_pair.ensures)))

pub returns-then-is_contrary : goal.returns-then-is_contrary
returns-then-is_contrary c =
    let last = refused_if (has_pair c.args.plain.now.contraries (c.args.assumption, c.args.contrary)) ContraryIsThere in
    sym (passed_all (pair_refusals 1 c.args.plain.now c.args.assumption c.args.contrary) (last ∷ []) tt
    (sym c.in_ok-check_pair.ensures) ∙ stopped last [] tt (sym c.is_contrary.ensures ∙ c.if-is_contrary.true))

pub returns : goal.returns
returns c =
    let last = refused_if (has_pair c.args.plain.now.contraries (c.args.assumption, c.args.contrary)) ContraryIsThere in
    sym (passed_all (pair_refusals 1 c.args.plain.now c.args.assumption c.args.contrary) (last ∷ []) tt
    (sym c.in_ok-check_pair.ensures) ∙ passed last [] tt (sym c.is_contrary.ensures ∙ c.if-is_contrary.false))
