use Rattle.std.proofs.Common.{◌≡◌, Ok, subst}
use Rattle.std.specs.Prelude.{IfOk}
use Rattle.edit_rules.specs.Edits.{edit_outcome}
use Rattle.edit_rules.specs.Kinds.{framework_of}
use Rattle.edit_rules.specs.declared.framework.Framework.{Framework as Held}
use Rattle.engine_tests.proofs.EffectLemmas.{told_taken}
use Rattle.engine_tests.proofs.tests.updates.effect_of.Goals as goal

pub returns : goal.returns
returns c =
    let after = framework_of c.apply.new.framework in
    let edit = c.args.edit.now in
    told_taken (framework_of c.args.framework.now) after edit c.apply.result
    (subst (λ (h : Held). IfOk c.apply.result (λ effect. edit_outcome (framework_of h) edit ≡ Ok (after, effect)))
    c.in_ok-after.ensures c.apply.ensures.done)
