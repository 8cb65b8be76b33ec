use Rattle.unit_propagate.proofs.Showing.{unit_alone}
use Rattle.clause_tests.proofs.tests.propagation.learn_first.Goals as goal

pub add_learned-requires : goal.add_learned-requires
add_learned-requires c = unit_alone c.args.search.now.lits c.args.lit c.requires
