use Rattle.sat_core.proofs.Searching.{plain_alone}
use Rattle.clause_tests.proofs.tests.solving.solve_with.Goals as goal

pub solve-requires : goal.solve-requires
solve-requires c = plain_alone c.args.assumed
