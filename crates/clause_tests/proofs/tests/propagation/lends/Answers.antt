use Rattle.clause_tests.proofs.Gained.{named_gained}
use Rattle.clause_tests.proofs.tests.propagation.lends.Goals as goal

pub clause-requires : goal.clause-requires
clause-requires c = named_gained _ _ _ _ c.in_ok-id.ensures.ok
