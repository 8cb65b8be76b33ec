use Rattle.edit_rules.specs.Kinds.{framework_of}
use Rattle.certificate_check.proofs.AxiomKinds.{axiom_fits}
use Rattle.refutation_logs.proofs.counts.axiom_count.Goals as goal

pub clause_of_axiom-requires : goal.clause_of_axiom-requires
clause_of_axiom-requires c = axiom_fits (framework_of c.args.framework.now) c.args.name.now c.requires
