use Rattle.iccma_tasks.specs.semantics.specs.Frameworks.{af}
use Rattle.certificate_claims.proofs.RangeLists.{adds_known, adds_new}
use Rattle.certificate_claims.proofs.ranges.add_if_first.Goals as goal

pub returns-then-has_list : goal.returns-then-has_list
returns-then-has_list c = adds_known (af c.args.plain.now) c.args.set.now c.in_ok-range.range c.args.found.now
    c.has_list.result c.in_ok-range.ensures (rw c.as_slice.ensures at c.has_list.ensures) c.if-has_list.true

pub returns : goal.returns
returns c = adds_new (af c.args.plain.now) c.args.set.now c.in_ok-copy.field-0 c.in_ok-range.range c.args.found.now
    _ _ c.has_list.result c.in_ok-copy.ensures.same c.in_ok-range.ensures
    (rw c.as_slice.ensures at c.has_list.ensures) c.if-has_list.false c.in_ok-push.ensures.ok c.in_ok-push-2.ensures.ok
