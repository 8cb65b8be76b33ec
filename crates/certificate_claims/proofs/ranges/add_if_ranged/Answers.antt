use Rattle.certificate_claims.proofs.RangeLists.{adds_ranged, adds_other}
use Rattle.certificate_claims.proofs.ranges.add_if_ranged.Goals as goal

pub returns-then-not-same : goal.returns-then-not-same
returns-then-not-same c = adds_other c.args.range.now c.args.own.now c.args.set.now c.args.found.now
    c.is_same-same.result c.is_same-same.ensures c.if-not-same.true

pub returns : goal.returns
returns c = adds_ranged c.args.range.now c.args.own.now c.args.set.now c.in_ok-copy.field-0 c.args.found.now
    _ c.is_same-same.result c.is_same-same.ensures c.if-not-same.false c.in_ok-copy.ensures.same
    c.in_ok-push.ensures.ok
