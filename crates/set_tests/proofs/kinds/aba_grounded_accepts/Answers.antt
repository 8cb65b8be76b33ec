use Rattle.semantics.specs.Frameworks.{aba}
use Rattle.set_tests.proofs.GroundedSets.{grounded_says}
use Rattle.set_tests.proofs.kinds.aba_grounded_accepts.Goals as goal

pub returns : goal.returns
returns c = grounded_says (aba c.args.plain.now) c.in_ok-grounded.grounded c.args.number c.in_ok-accepts.accepts
    c.in_ok-grounded.ensures c.in_ok-accepts.ensures
