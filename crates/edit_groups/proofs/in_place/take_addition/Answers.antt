use Rattle.std.proofs.Common.{◌≡◌, ◌⊎◌, ◌∙◌, sym, inr, Err, IfErr}
use Rattle.semantics.specs.Framework.{Af}
use Rattle.semantics.specs.Frameworks.{af}
use Rattle.edit_rules.specs.declared.edit.Edit.TheVariants.{AttackAdd}
use Rattle.edit_rules.specs.declared.effect.EditFault.TheVariants.{Memory}
use Rattle.edit_rules.specs.Edits.{edit_outcome}
use Rattle.edit_rules.proofs.RefusalLemmas.{handed_on}
use Rattle.edit_groups.specs.Changes.{IsChanged}
use Rattle.edit_groups.proofs.ChangeLemmas.{addition_ends, addition_refused, addition_taken}
use Rattle.edit_groups.proofs.in_place.take_addition.Goals as goal

pub returns-in_err-check_ends-clause-fault : goal.returns-in_err-check_ends-clause-fault
returns-in_err-check_ends-clause-fault c =
    let f = c.args.plain.now in
    let old = c.args.changes.now in
    handed_on (λ r. IfErr r (λ fault. (fault ≡ Memory) ⊎ ((g : Af) → IsChanged f old g
    → edit_outcome (af g) (AttackAdd c.args.attacker c.args.target) ≡ Err fault))) c.from_residual.result
    c.in_err-check_ends.field-0.0 c.from_residual.ensures
    (inr (λ g changed. addition_ends f g c.args.attacker c.args.target old c.in_err-check_ends.field-0.0
    c.in_err-check_ends.ensures.told changed))

pub returns-then-is_there-clause-fault : goal.returns-then-is_there-clause-fault
returns-then-is_there-clause-fault c = inr (λ g changed.
    addition_refused c.args.plain.now g c.args.attacker c.args.target c.args.changes.now c.in_ok-check_ends.ensures.told
    (sym c.is_there.ensures ∙ c.if-is_there.true) changed)

pub returns-clause-taken : goal.returns-clause-taken
returns-clause-taken c =
    addition_taken c.args.plain.now c.args.attacker c.args.target c.args.changes.now _ c.in_ok-check_ends.ensures.told
    c.in_ok-check_ends.ensures.live (sym c.is_there.ensures ∙ c.if-is_there.false) c.in_ok-note.ensures
