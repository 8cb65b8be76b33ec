use Rattle.std.proofs.Common.{subst}
use Rattle.edit_rules.specs.Kinds.{framework_of}
use Rattle.answer_claims.specs.SetFacts.{HasSetsOf}
use Rattle.answer_claims.proofs.claims.claims_of.Goals as goal

pub all_widest_claims-requires : goal.all_widest_claims-requires
all_widest_claims-requires c = rw c.as_slice-in-AllWidest.ensures
    (subst (λ r. HasSetsOf (framework_of c.args.framework.now) r) c.in-AllWidest.is c.requires)
