use Rattle.std.proofs.Common.{arith}
use Rattle.certificate_check.proofs.RowsLemmas.{side_on}
use Rattle.certificate_check.proofs.steps.take_side.Goals as goal

pub returns : goal.returns
returns c = λ f kind is. side_on f kind c.args.sets.now c.args.taken.now _ c.args.number
    (omega (arith, c.if-index-eq0.false)) (omega (arith, c.if-index-sets.false)) c.in_ok-push_side.ensures is
