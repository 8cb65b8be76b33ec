use Rattle.certificate_claims.proofs.OrderLemmas.{larger_tells}
use Rattle.certificate_claims.proofs.order.has_larger.Goals as goal

pub returns : goal.returns
returns c = larger_tells c.args.sets.now c.args.set.now c.is_part_of_any.result c.is_part_of_any.ensures
