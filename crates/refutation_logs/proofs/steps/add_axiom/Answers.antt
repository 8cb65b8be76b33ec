use Rattle.std.proofs.Common.{◌∙◌}
use Rattle.edit_rules.specs.Kinds.{framework_of}
use Rattle.certificate_check.proofs.AxiomKinds.{axiom_fits}
use Rattle.refutation_logs.proofs.Loggings.{axiom_added}
use Rattle.refutation_logs.proofs.steps.add_axiom.Goals as goal

pub clause_of_axiom-requires : goal.clause_of_axiom-requires
clause_of_axiom-requires c = axiom_fits (framework_of c.args.framework.now) c.args.name.now c.requires.axiom

pub returns : goal.returns
returns c =
    axiom_added _ _ _ _ _ _ _ _ _ (c.as_slice.ensures ∙ c.in_ok-given.ensures.table)
    (c.as_slice-packed.ensures.value ∙ c.in_ok-number.ensures.packed) c.in_ok-number.ensures.appearance
    c.in_ok-number.ensures.stands c.in_ok-push.ensures.ok c.in_ok-push-2.ensures.step c.requires.idle
    c.in_ok-push-2.ensures.count
