use Rattle.sat_core.proofs.Searching.{plain_none}
use Rattle.encoding_tests.proofs.searches.solve_free.Goals as goal

pub solve-requires : goal.solve-requires
solve-requires c = plain_none
