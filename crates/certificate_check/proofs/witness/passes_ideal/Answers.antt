use Rattle.edit_rules.specs.Kinds.{framework_of}
use Rattle.certificate_check.proofs.SetLemmas.{later_set}
use Rattle.certificate_check.proofs.witness.passes_ideal.Goals as goal

pub returns : goal.returns
returns c =
    later_set (framework_of c.args.tests.now.framework.now) c.args.query.now c.args.shown.now c.args.says
    c.args.index
    c.args.set.now _
    c.if-index-eq0.false c.in_ok-admissible.ensures
