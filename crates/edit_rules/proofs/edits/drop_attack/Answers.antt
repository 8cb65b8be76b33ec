use Rattle.std.proofs.Common.{◌≡◌, ◌⊎◌, ◌∙◌, sym, ap, refl, inr, [], ◌∷◌, not, Err, IfErr}
use Rattle.semantics.specs.Frameworks.{af}
use Rattle.edit_rules.specs.Refusals.{refused_if}
use Rattle.edit_rules.specs.Edits.{attack_dropped, end_refusals, row_outcome}
use Rattle.edit_rules.specs.Pairs.{has_pair}
use Rattle.edit_rules.specs.declared.effect.EditFault.TheVariants.{Memory, NoSuchAttack}
use Rattle.edit_rules.proofs.EditWordTests.{is_false, not_so}
use Rattle.edit_rules.proofs.EditTests.{there_pair, pair_there}
use Rattle.edit_rules.proofs.RefusalLemmas.{handed_on}
use Rattle.edit_rules.proofs.RowOutcomes.{done_behind, refused_behind}
use Rattle.edit_rules.proofs.SameFrameworks.{lost_is}
use Rattle.edit_rules.proofs.edits.drop_attack.Goals as goal

pub returns-in_err-check_ends-clause-fault : goal.returns-in_err-check_ends-clause-fault
returns-in_err-check_ends-clause-fault c =
    let row = attack_dropped c.args.plain.now c.args.attacker c.args.target in
    handed_on (λ r. IfErr r (λ fault. (fault ≡ Memory) ⊎ (row_outcome row ≡ Err fault))) c.from_residual.result
    c.in_err-check_ends.field-0.0 c.from_residual.ensures
    (inr (c.in_err-check_ends.ensures.told
    (refused_if (not (has_pair c.args.plain.now.attacks (c.args.attacker, c.args.target))) NoSuchAttack ∷ [])
    (row.framework, row.effect)))

pub returns-then-not-has_attack-clause-fault : goal.returns-then-not-has_attack-clause-fault
returns-then-not-has_attack-clause-fault c =
    let row = attack_dropped c.args.plain.now c.args.attacker c.args.target in
    inr (refused_behind (end_refusals c.args.plain.now c.args.attacker c.args.target)
    (refused_if (not (has_pair c.args.plain.now.attacks (c.args.attacker, c.args.target))) NoSuchAttack)
    (row.framework, row.effect) _ c.in_ok-check_ends.ensures.told
    (ap not (is_false (has_pair c.args.plain.now.attacks (c.args.attacker, c.args.target)) (λ t.
    not_so c.has_attack.result _ c.has_attack.ensures c.if-not-has_attack.true
    (pair_there c.args.plain.now.attacks (c.args.attacker, c.args.target) t)))) refl)

pub returns-clause-done : goal.returns-clause-done
returns-clause-done c =
    let f = c.args.plain.now in
    let row = attack_dropped f c.args.attacker c.args.target in
    let is = lost_is f c.remove_attack.new.self c.args.attacker c.args.target c.live-form.ensures.form
    c.remove_attack.ensures.form c.remove_attack.ensures.live c.remove_attack.ensures.loses in
    done_behind (end_refusals f c.args.attacker c.args.target)
    (refused_if (not (has_pair f.attacks (c.args.attacker, c.args.target))) NoSuchAttack)
    (row.framework, row.effect) _ c.in_ok-check_ends.ensures.told
    (ap not (there_pair f.attacks (c.args.attacker, c.args.target)
    (c.has_attack.ensures.0 c.if-not-has_attack.false)))
    (ap (λ g. (af g, row.effect)) (sym is)
    ∙ ap (λ e. (af c.remove_attack.new.self, e)) (sym c.of_edit.ensures))
