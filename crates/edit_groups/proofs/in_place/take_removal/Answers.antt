use Rattle.std.proofs.Common.{◌≡◌, ◌⊎◌, ◌∙◌, sym, inr, Err, IfErr}
use Rattle.semantics.specs.Framework.{Af}
use Rattle.semantics.specs.Frameworks.{af}
use Rattle.edit_rules.specs.declared.edit.Edit.TheVariants.{AttackDrop}
use Rattle.edit_rules.specs.declared.effect.EditFault.TheVariants.{Memory}
use Rattle.edit_rules.specs.Edits.{edit_outcome}
use Rattle.edit_rules.proofs.RefusalLemmas.{handed_on}
use Rattle.edit_groups.specs.Changes.{IsChanged}
use Rattle.edit_groups.proofs.ChangeLemmas.{removal_ends, removal_refused, removal_taken}
use Rattle.edit_groups.proofs.in_place.take_removal.Goals as goal

pub returns-in_err-check_ends-clause-fault : goal.returns-in_err-check_ends-clause-fault
returns-in_err-check_ends-clause-fault c =
    let f = c.args.plain.now in
    let old = c.args.changes.now in
    handed_on (λ r. IfErr r (λ fault. (fault ≡ Memory) ⊎ ((g : Af) → IsChanged f old g
    → edit_outcome (af g) (AttackDrop c.args.attacker c.args.target) ≡ Err fault))) c.from_residual.result
    c.in_err-check_ends.field-0.0 c.from_residual.ensures
    (inr (λ g changed. removal_ends f g c.args.attacker c.args.target old c.in_err-check_ends.field-0.0
    c.in_err-check_ends.ensures.told changed))

pub returns-then-not-is_there-clause-fault : goal.returns-then-not-is_there-clause-fault
returns-then-not-is_there-clause-fault c = inr (λ g changed.
    removal_refused c.args.plain.now g c.args.attacker c.args.target c.args.changes.now c.in_ok-check_ends.ensures.told
    (sym c.is_there.ensures ∙ c.if-not-is_there.true) changed)

pub returns-clause-taken : goal.returns-clause-taken
returns-clause-taken c =
    removal_taken c.args.plain.now c.args.attacker c.args.target c.args.changes.now _ c.in_ok-check_ends.ensures.told
    (sym c.is_there.ensures ∙ c.if-not-is_there.false) c.in_ok-note.ensures
