use Rattle.sat_core.proofs.Searching.{plain_none}
use Rattle.clause_tests.proofs.tests.solving.solve_free.Goals as goal

pub solve-requires : goal.solve-requires
solve-requires c = plain_none
