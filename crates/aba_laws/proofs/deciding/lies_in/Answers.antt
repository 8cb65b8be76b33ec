use Rattle.aba_laws.proofs.DecidingLemmas.{within_same}
use Rattle.aba_laws.proofs.deciding.lies_in.Goals as goal

pub returns : goal.returns
returns c =
    within_same c.is_within.result c.args.s.now.set c.as_slice.result.now c.args.other.now.set c.as_slice-2.result.now
    c.as_slice.ensures c.as_slice-2.ensures c.is_within.ensures
