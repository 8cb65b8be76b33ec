use Rattle.certificate_claims.proofs.OrderLemmas.{none_where_no_part}
use Rattle.certificate_claims.proofs.order.none_within.Goals as goal

pub returns : goal.returns
returns c = none_where_no_part c.args.sets.now c.some_within.result c.some_within.ensures
