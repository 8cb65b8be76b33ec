use Rattle.std.proofs.Common.{◌∙◌}
use Rattle.edit_rules.specs.Kinds.{framework_of}
use Rattle.certificate_check.proofs.AxiomKinds.{axiom_fits}
use Rattle.certificate_check.proofs.StepLemmas.{closed_moved}
use Rattle.certificate_check.proofs.closed.axiom_is_closed.Goals as goal

pub clause_of_axiom-requires : goal.clause_of_axiom-requires
clause_of_axiom-requires c = axiom_fits (framework_of c.args.framework.now) c.args.name.now c.requires.axiom

pub returns : goal.returns
returns c = closed_moved _ _ _ _ _ (c.as_slice.ensures ∙ c.in_ok-clause.ensures.table) c.are_closed.ensures
