use Rattle.sat_core.proofs.Searching.{plain_alone}
use Rattle.clause_tests.proofs.tests.solving.looked.Goals as goal

pub refute-requires : goal.refute-requires
refute-requires c = plain_alone c.args.assumed
