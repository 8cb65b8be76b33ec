use Rattle.edit_rules.specs.Kinds.{framework_of}
use Rattle.set_tests.proofs.GroundedSets.{tests_grounded}
use Rattle.set_tests.proofs.kinds.is_grounded.Goals as goal

pub returns : goal.returns
returns c = tests_grounded (framework_of c.args.framework.now) c.args.set.now c.args.grounded.now _ c.requires
    c.is_same.ensures
