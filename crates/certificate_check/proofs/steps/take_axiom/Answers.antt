use Rattle.std.proofs.Common.{refl, ◌∙◌}
use Rattle.edit_rules.specs.Kinds.{framework_of}
use Rattle.certificate_check.proofs.AxiomKinds.{axiom_fits}
use Rattle.certificate_check.proofs.RowsLemmas.{taken_on}
use Rattle.certificate_check.proofs.steps.take_axiom.Goals as goal

pub clause_of_axiom-requires : goal.clause_of_axiom-requires
clause_of_axiom-requires c =
    axiom_fits (framework_of c.args.framework.now) c.args.name.now (c.if-not-is_axiom.ensures.0 refl)

pub returns : goal.returns
returns c =
    taken_on _ _ _ _ _ _ _ c.requires (c.if-not-is_axiom.ensures.0 refl)
    (c.as_slice.ensures ∙ c.in_ok-clause.ensures.table) c.in_ok-push.ensures
