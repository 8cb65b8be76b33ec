use Rattle.std.proofs.Common.{refl}
use Rattle.edit_rules.specs.Kinds.{framework_of}
use Rattle.certificate_check.proofs.RowsLemmas.{derived_on}
use Rattle.certificate_check.proofs.steps.take_derived.Goals as goal

pub returns : goal.returns
returns c = derived_on (framework_of c.args.framework.now) c.args.kind c.args.sets.now _ c.args.taken.now _ _
    c.args.literals.now c.args.hints.now _ refl c.in_ok-settle_all.ensures c.in_ok-derived.ensures
