use Rattle.std.proofs.Common.{◌≡◌, ◌⊎◌, ◌∙◌, sym, ap, refl, inr, [], ◌∷◌, Err, IfErr}
use Rattle.semantics.specs.Frameworks.{af}
use Rattle.edit_rules.specs.Refusals.{refused_if}
use Rattle.edit_rules.specs.Edits.{attack_added, end_refusals, row_outcome}
use Rattle.edit_rules.specs.Pairs.{has_pair}
use Rattle.edit_rules.specs.declared.effect.EditFault.TheVariants.{AttackIsThere, Memory}
use Rattle.edit_rules.proofs.EditWordTests.{is_false, not_so}
use Rattle.edit_rules.proofs.EditTests.{there_pair, pair_there}
use Rattle.edit_rules.proofs.RefusalLemmas.{handed_on}
use Rattle.edit_rules.proofs.RowOutcomes.{done_behind, refused_behind}
use Rattle.edit_rules.proofs.SameFrameworks.{gained_is}
use Rattle.edit_rules.proofs.edits.add_attack.Goals as goal

pub returns-in_err-check_ends-clause-fault : goal.returns-in_err-check_ends-clause-fault
returns-in_err-check_ends-clause-fault c =
    let row = attack_added c.args.plain.now c.args.attacker c.args.target in
    handed_on (λ r. IfErr r (λ fault. (fault ≡ Memory) ⊎ (row_outcome row ≡ Err fault))) c.from_residual.result
    c.in_err-check_ends.field-0.0 c.from_residual.ensures
    (inr (c.in_err-check_ends.ensures.told
    (refused_if (has_pair c.args.plain.now.attacks (c.args.attacker, c.args.target)) AttackIsThere ∷ [])
    (row.framework, row.effect)))

pub returns-then-has_attack-clause-fault : goal.returns-then-has_attack-clause-fault
returns-then-has_attack-clause-fault c =
    let row = attack_added c.args.plain.now c.args.attacker c.args.target in
    inr (refused_behind (end_refusals c.args.plain.now c.args.attacker c.args.target)
    (refused_if (has_pair c.args.plain.now.attacks (c.args.attacker, c.args.target)) AttackIsThere)
    (row.framework, row.effect) _ c.in_ok-check_ends.ensures.told
    (there_pair c.args.plain.now.attacks (c.args.attacker, c.args.target)
    (c.has_attack.ensures.0 c.if-has_attack.true)) refl)

pub returns-clause-done : goal.returns-clause-done
returns-clause-done c =
    let f = c.args.plain.now in
    let row = attack_added f c.args.attacker c.args.target in
    let is = gained_is f c.insert_attack.new.self c.args.attacker c.args.target c.live-form.ensures.form
    c.in_ok-insert_attack.ensures.form c.in_ok-check_ends.ensures.live c.in_ok-insert_attack.ensures.live
    c.in_ok-insert_attack.ensures.gains in
    done_behind (end_refusals f c.args.attacker c.args.target)
    (refused_if (has_pair f.attacks (c.args.attacker, c.args.target)) AttackIsThere)
    (row.framework, row.effect) _ c.in_ok-check_ends.ensures.told
    (is_false (has_pair f.attacks (c.args.attacker, c.args.target)) (λ t.
    not_so c.has_attack.result _ c.has_attack.ensures c.if-has_attack.false
    (pair_there f.attacks (c.args.attacker, c.args.target) t)))
    (ap (λ g. (af g, row.effect)) (sym is)
    ∙ ap (λ e. (af c.insert_attack.new.self, e)) (sym c.of_edit.ensures))
