use Rattle.std.proofs.Common.{◌≡◌, Ok, subst}
use Rattle.edit_rules.specs.Edits.{edit_outcome}
use Rattle.edit_rules.specs.Kinds.{framework_of}
use Rattle.edit_rules.specs.declared.framework.Framework.{Framework as Held}
use Rattle.framework_solver.proofs.UpdateLemmas.{left_as}
use Rattle.framework_solver.proofs.updating.copy_edited.Goals as goal

pub returns-in-Ok : goal.returns-in-Ok
returns-in-Ok c =
    let edit = c.args.effect.now.edit in
    left_as (framework_of c.args.framework.now) (framework_of c.apply.new.framework) edit c.in-Ok.field-0
    (subst (λ (h : Held). edit_outcome (framework_of h) edit ≡ Ok (framework_of c.apply.new.framework, c.in-Ok.field-0))
    c.in_ok-after.ensures c.in-Ok.ensures.done)
