use Rattle.std.proofs.Common.{IfOk, subst, sym}
use Rattle.edit_rules.specs.Kinds.{framework_of}
use Rattle.edit_rules.specs.declared.framework.Framework.{Framework as Held}
use Rattle.af_encoding.specs.Changes.{IsEffectOf}
use Rattle.framework_solver.specs.Needing.{AreCalledFor}
use Rattle.framework_solver.proofs.UpdateLemmas.{aba_called, aba_edited, af_called, af_edited}
use Rattle.framework_solver.proofs.updating.changed_of.Goals as goal

pub changed-requires : goal.changed-requires
changed-requires c =
    let f = c.requires.before in
    af_edited f c.in-Af.plain c.args.effect.now c.requires.numbered
    (subst (λ (h : Held). IsEffectOf f (framework_of h) c.args.effect.now) c.in-Af.is c.requires.of)

pub changed-requires-in-Aba : goal.changed-requires-in-Aba
changed-requires-in-Aba c =
    let f = c.requires.before in
    aba_edited f c.in-Aba.plain c.args.effect.now c.requires.numbered
    (subst (λ (h : Held). IsEffectOf f (framework_of h) c.args.effect.now) c.in-Aba.is c.requires.of)

pub returns-in-Af : goal.returns-in-Af
returns-in-Af c = λ before numbered of.
    subst (λ (h : Held). IfOk c.changed.result (AreCalledFor before (framework_of h))) (sym c.in-Af.is)
    (af_called before c.in-Af.plain c.args.effect.now c.changed.result numbered
    (subst (λ (h : Held). IsEffectOf before (framework_of h) c.args.effect.now) c.in-Af.is of) c.changed.ensures)

pub returns-in-Aba : goal.returns-in-Aba
returns-in-Aba c = λ before numbered of.
    subst (λ (h : Held). IfOk c.changed-in-Aba.result (AreCalledFor before (framework_of h))) (sym c.in-Aba.is)
    (aba_called before c.in-Aba.plain c.args.effect.now c.changed-in-Aba.result numbered
    (subst (λ (h : Held). IsEffectOf before (framework_of h) c.args.effect.now) c.in-Aba.is of)
    c.changed-in-Aba.ensures)
