use Rattle.edit_rules.specs.Kinds.{framework_of}
use Rattle.certificate_check.proofs.RowsLemmas.{named_in, none_settled, settled_more}
use Rattle.certificate_check.proofs.steps.settle_all.Goals as goal

pub loop-hint-init : goal.loop-hint-init
loop-hint-init c = none_settled _ _ _ _ _ _ c.requires

pub settle-requires-clause-taken : goal.settle-requires-clause-taken
settle-requires-clause-taken c = c.loop-hint.invariant.written.rows

pub settle-requires-clause-place : goal.settle-requires-clause-place
settle-requires-clause-place c = rw c.place_of-place.ensures (named_in (framework_of c.args.framework.now) c.args.kind
    c.args.sets.now c.loop-hint.taken _ c.loop-hint.invariant.written.rows)

pub loop-hint-preserved : goal.loop-hint-preserved
loop-hint-preserved c = settled_more (framework_of c.args.framework.now) c.args.kind c.args.sets.now c.args.limit
    c.args.hints.now c.loop-hint.hint-index c.place_of-place.result c.args.taken.now c.loop-hint.taken _
    c.loop-hint-test.true c.place_of-place.ensures c.loop-hint.invariant c.in_ok-settle.ensures
